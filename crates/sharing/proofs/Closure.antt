-- Every function keeps the width's bound, and the empty group. Assumes nothing.
use Rattle.std.proofs.Common.{ℕ, ◌^◌, ◌<◌, ◌≤◌, true, not, ◌&&◌, ◌||◌, T, List, sym, subst, inl, ⊎_elim, arith, pow_mono}
use lib.Dec.{not_T}
use lib.Pow.{pow-lt}
use Rattle.families.specs.Masks.{bit, cut, meets}
use Rattle.rows.specs.Cores.{Empty}
use Rattle.rows.specs.Rows.{Cored}
use Rattle.rows.specs.Values.{Value, Fits}
use Rattle.sharing.specs.Sharing.{touches, picks, union, tied, entered, backed}
use Rattle.domain.proofs.Booleans.{and_split, and_pair, or_split, or_left}
use Rattle.families.proofs.Masks.{zero_bits, empty_misses}
use Rattle.sharing.specs.Laws.Picks.{picks_some, union_all}
use Rattle.sharing.proofs.Rules.{entered_rule}

-- ---- tie

pub tied_fits : (a : Value) (x : ℕ) (ys : List ℕ) → Fits a → Fits (tied a x ys)
tied_fits a x ys fits h t =
    let p = touches x ys in
    let joins = picks a p h (λ g. bit g x) && picks a p h (meets ys) in
    ⊎_elim (λ k. fits h (and_split (a.has h) (not (p h)) k).0)
    (λ k. (union_all a p h (and_split (union a p h) joins k).0).below)
    (or_split (a.has h && not (p h)) (union a p h && joins) t)

empty_untouched : (x : ℕ) (ys : List ℕ) → T (touches x ys 0) → ⊥
empty_untouched x ys t = ⊎_elim (zero_bits x) (empty_misses ys) (or_split (bit 0 x) (meets ys 0) t)

pub tied_cored : (a : Value) (x : ℕ) (ys : List ℕ) → Cored Empty a → Cored Empty (tied a x ys)
tied_cored a x ys full h t =
    let p = touches x ys in
    let with_x = λ (k : ℕ). picks a p k (λ g. bit g x) in
    let with_ys = λ (k : ℕ). picks a p k (meets ys) in
    let made = λ (k : ℕ). union a p k && (with_x k && with_ys k) in
    let empty : T (a.has 0) =
    ⊎_elim (λ k. full h (and_split (a.has h) (not (p h)) k).0)
    (λ k.
    let both = (and_split (union a p h) (with_x h && with_ys h) k).1 in
    let one = picks_some a p h (λ g. bit g x) (and_split (with_x h) (with_ys h) both).0 in
    full one.g one.held)
    (or_split (a.has h && not (p h)) (made h) t) in
    or_left (a.has 0 && not (p 0)) (made 0) (and_pair (a.has 0) (not (p 0)) empty (not_T (p 0) (empty_untouched x ys)))

-- ---- enter

pub entered_fits : (a : Value) (v : ℕ) → a.width ≤ v → Fits a → Fits (entered a v)
entered_fits a v wide fits h t =
    ⊎_elim (λ k. let l = fits h k in let m : 2 ^ a.width ≤ 2 ^ v = pow_mono wide in omega arith)
    (λ k. subst (λ (j : ℕ). j < 2 ^ v) (sym k.3) (pow-lt k.2))
    (((entered_rule a v).sets h).0 t).1

pub entered_cored : (a : Value) (v : ℕ) → Cored Empty a → Cored Empty (entered a v)
entered_cored a v full h t =
    let empty = (((entered_rule a v).sets h).0 t).0 in ((entered_rule a v).sets 0).1 (empty, inl empty)

-- ---- back

pub backed_fits : (a : Value) (args : List ℕ) (b : Value) → Fits a → Fits (backed a args b)
backed_fits a args b fits h t =
    let p = meets args in
    let joins = picks a p h (λ g. true) && b.has (cut args h) in
    let kept = a.has h && not (p h) in
    let made = union a p h && joins in
    let t₁ = (and_split (a.has 0) (b.has 0 && (kept || made)) t).1 in
    ⊎_elim (λ k. fits h (and_split (a.has h) (not (p h)) k).0)
    (λ k. (union_all a p h (and_split (union a p h) joins k).0).below)
    (or_split kept made (and_split (b.has 0) (kept || made) t₁).1)

pub backed_cored : (a : Value) (args : List ℕ) (b : Value) → Cored Empty a → Cored Empty (backed a args b)
backed_cored a args b full h t =
    let p = meets args in
    let kept = λ (k : ℕ). a.has k && not (p k) in
    let made = λ (k : ℕ). union a p k && (picks a p k (λ g. true) && b.has (cut args k)) in
    let (empty_a, t₁) = and_split (a.has 0) (b.has 0 && (kept h || made h)) t in
    let empty_b = (and_split (b.has 0) (kept h || made h) t₁).0 in
    and_pair (a.has 0) (b.has 0 && (kept 0 || made 0)) empty_a
    (and_pair (b.has 0) (kept 0 || made 0) empty_b
    (or_left (kept 0) (made 0) (and_pair (a.has 0) (not (p 0)) empty_a (not_T (p 0) (empty_misses args)))))
