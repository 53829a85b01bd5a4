-- What is read off stored words: a lawful value, whatever they are, and the value that they spell where it is lawful.
-- Assumes nothing.
use Rattle.std.proofs.Common.{◌≡◌, ℕ, ◌^◌, ◌<◌, ◌≤◌, ◌&&◌, T, ltb, List, take, sym, ap, ◌∙◌, subst, arith, ltb→lt, lt→ltb}
use Rattle.std.proofs.lemmas.List.{take_all}
use Rattle.domain.specs.Variables.{Below, Different, widest}
use Rattle.domain.proofs.Booleans.{and_split, and_pair}
use Rattle.families.specs.declared.family.Family.{Family}
use Rattle.families.specs.Words.{holds}
use Rattle.domain.proofs.Lists.{different_few}
use Rattle.rows.specs.Cores.{Core, core}
use Rattle.rows.specs.declared.row.Row.{Row}
use Rattle.rows.specs.Rows.{Cored, read, read_has, read_width}
use Rattle.rows.specs.Values.{Value, Fits}
use Rattle.rows.proofs.Cored.{core_low}
use Rattle.rows.proofs.Values.{same_value}

-- ---- a set that is read

abbrev pub ReadSo : {K : Type 0} → Core → Row K → ℕ → Type 0
ReadSo c r g = (g < 2 ^ read_width r) × T (holds r.map (core c (read_width r))) × T (holds r.map g)

pub read_to : {K : Type 0} (c : Core) (r : Row K) (g : ℕ) → T ((read c r).has g) → ReadSo c r g
unfolding read_has
read_to c r g t =
    let low = ltb g (2 ^ read_width r) in
    let first = holds r.map (core c (read_width r)) in
    let here = holds r.map g in
    let (t₁, s) = and_split low (first && here) t in
    let (t₂, t₃) = and_split first here s in
    (ltb→lt g (2 ^ read_width r) t₁, t₂, t₃)

pub read_from : {K : Type 0} (c : Core) (r : Row K) (g : ℕ) → ReadSo c r g → T ((read c r).has g)
unfolding read_has
read_from c r g (l, t₂, t₃) =
    let low = ltb g (2 ^ read_width r) in
    let first = holds r.map (core c (read_width r)) in
    let here = holds r.map g in
    and_pair low (first && here) (lt→ltb g (2 ^ read_width r) l) (and_pair first here t₂ t₃)

pub read_held : {K : Type 0} (c : Core) (r : Row K) (g : ℕ) → T ((read c r).has g) → T (holds r.map g)
read_held c r g t = (read_to c r g t).2

-- ---- it is lawful

pub read_narrow : {K : Type 0} (r : Row K) → read_width r ≤ widest
read_narrow r = omega arith

pub read_fits : {K : Type 0} (c : Core) (r : Row K) → Fits (read c r)
read_fits c r g t = (read_to c r g t).0

pub read_cored : {K : Type 0} (c : Core) (r : Row K) → Cored c (read c r)
read_cored c r g t =
    let there = (read_to c r g t).1 in
    read_from c r (core c (read_width r)) (core_low c (read_width r), there, there)

-- different variables of a value are no more than the largest width, so that none is left out
pub all_taken : {K : Type 0} (r : Row K) (xs : List ℕ) → Below (read_width r) xs → Different xs → take widest xs ≡ xs
all_taken r xs below different =
    let few = different_few (read_width r) xs below different in
    let narrow = read_narrow r in
    take_all widest xs (omega arith)

-- ---- a lawful value that lies there is read

pub read_off : {K : Type 0} (c : Core) (r : Row K) (a : Value) → (read c r).width ≡ a.width → Fits a → Cored c a →
    ((h : ℕ) → h < 2 ^ a.width → holds r.map h ≡ a.has h) → read c r ≡ a
read_off c r a e fits cored spelt = same_value (read c r) a (read_fits c r) fits e (λ g l. (to g, from g))
  where
    lies : (g : ℕ) → T (a.has g) → T (holds r.map g)
    lies g t = subst T (sym (spelt g (fits g t))) t

    to : (g : ℕ) → T ((read c r).has g) → T (a.has g)
    to g t =
        let l : g < 2 ^ a.width = subst (λ (n : ℕ). g < 2 ^ n) e (read_fits c r g t) in
        subst T (spelt g l) (read_held c r g t)

    from : (g : ℕ) → T (a.has g) → T ((read c r).has g)
    from g t =
        let there = subst (λ (n : ℕ). T (holds r.map (core c n))) (sym e) (lies (core c a.width) (cored g t)) in
        read_from c r g (subst (λ (n : ℕ). g < 2 ^ n) (sym e) (fits g t), there, lies g t)

-- ---- a value that is stored

pub stored : {K : Type 0} {n : ℕ} {f : Family} (c : Core) (r : Row K) (a : Value) → (r.width ≡ n) × (r.map ≡ f) → n ≡ a.width → a.width ≤ widest → Fits a → Cored c a →
    ((h : ℕ) → h < 2 ^ a.width → holds f h ≡ a.has h) → read c r ≡ a
stored c r a (of_width, of_map) wide narrow fits cored spelt =
    let w : read_width r ≡ a.width = omega arith in
    read_off c r a w fits cored (λ h l. ap (λ (f : Family). holds f h) of_map ∙ spelt h l)
