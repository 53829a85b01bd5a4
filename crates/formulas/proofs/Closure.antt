-- Every function keeps the width's bound, and the model of all variables. Assumes nothing.
use Rattle.std.proofs.Common.{◌≡◌, ℕ, ◌%◌, ◌^◌, ◌<◌, ◌≤◌, T, ltb, List, length, sym, ap, ◌∙◌, subst, ltb→lt, lt→ltb}
use lib.Pow.{ones_lt}
use Rattle.domain.specs.Variables.{Below}
use Rattle.families.specs.Masks.{whole, cut}
use Rattle.rows.specs.Cores.{Full}
use Rattle.rows.specs.Rows.{Cored}
use Rattle.rows.specs.Values.{Value, Fits}
use Rattle.formulas.specs.Formulas.{tied, entered, backed}
use Rattle.formulas.specs.Bounds.{unknown}
use Rattle.domain.proofs.Booleans.{and_split, and_pair}
use Rattle.families.proofs.Ranges.{bit_whole, cut_whole, low_whole}
use Rattle.formulas.specs.Laws.Rules.{tied_rule, backed_rule}

-- ---- tie

pub tied_fits : (a : Value) (x : ℕ) (ys : List ℕ) → Fits a → Fits (tied a x ys)
tied_fits a x ys fits g t = fits g (((tied_rule a x ys).sets g).0 t).0

-- the model of all variables meets every tie
pub tied_cored : (a : Value) (x : ℕ) (ys : List ℕ) → x < a.width → Below a.width ys → Cored Full a → Cored Full (tied a x ys)
tied_cored a x ys x_below ys_below cored g t =
    let n = a.width in
    let rule = tied_rule a x ys in
    (rule.sets (whole n)).1
    (cored g ((rule.sets g).0 t).0, (λ b y l. (bit_whole n y).1 (ys_below y l), λ f. (bit_whole n x).1 x_below))

-- ---- enter

pub entered_fits : (a : Value) (v : ℕ) → Fits (entered a v)
entered_fits a v h t = ltb→lt h (2 ^ v) (and_split (ltb h (2 ^ v)) (a.has (h % 2 ^ a.width)) t).0

pub entered_cored : (a : Value) (v : ℕ) → a.width ≤ v → Cored Full a → Cored Full (entered a v)
entered_cored a v wide cored h t =
    let n = a.width in
    let held = cored (h % 2 ^ n) (and_split (ltb h (2 ^ v)) (a.has (h % 2 ^ n)) t).1 in
    let held' = subst (λ (k : ℕ). T (a.has k)) (sym (low_whole n v wide)) held in
    and_pair (ltb (whole v) (2 ^ v)) (a.has (whole v % 2 ^ n)) (lt→ltb (whole v) (2 ^ v) (ones_lt v)) held'

-- ---- back

pub backed_fits : (a : Value) (args : List ℕ) (b : Value) → Fits a → Fits (backed a args b)
backed_fits a args b fits g t = fits g (((backed_rule a args b).sets g).0 t).0

pub backed_cored : (a : Value) (args : List ℕ) (b : Value) → Below a.width args → b.width ≡ length args → Cored Full a → Cored Full b → Cored Full (backed a args b)
backed_cored a args b below placed cored_a cored_b g t =
    let w = whole a.width in
    let rule = backed_rule a args b in
    let (l, r) = (rule.sets g).0 t in
    let e : whole b.width ≡ cut args w = ap whole placed ∙ sym (cut_whole a.width args below) in
    (rule.sets w).1 (cored_a g l, subst (λ (k : ℕ). T (b.has k)) e (cored_b (cut args g) r))

-- ---- nothing known

pub unknown_fits : (n : ℕ) → Fits (unknown n)
unknown_fits n g t = ltb→lt g (2 ^ n) t

pub unknown_cored : (n : ℕ) → Cored Full (unknown n)
unknown_cored n g t = lt→ltb (whole n) (2 ^ n) (ones_lt n)
