-- The core: it lies below the width, a join keeps it, and a view does where its variables allow. Assumes nothing.
use Rattle.std.proofs.Common.{◌≡◌, ℕ, ◌^◌, ◌<◌, T, List, length, sym, subst, ⊎_elim, pow_pos}
use lib.Pow.{ones_lt}
use Rattle.std.proofs.lemmas.Bool.{cases_lt}
use Rattle.domain.proofs.Booleans.{or_split, or_left, or_right}
use Rattle.families.specs.Masks.{cut}
use Rattle.families.proofs.Masks.{below_bits, cut_empty}
use Rattle.families.proofs.Ranges.{cut_whole, whole_cut}
use Rattle.rows.specs.Cores.{Core, Empty, Full, core}
use Rattle.rows.specs.Rows.{Cored, Keeps}
use Rattle.rows.specs.Values.{Value, never, joined, viewed, viewed_has}
use Rattle.rows.proofs.Values.{viewed_some, some_viewed}

pub core_low : (c : Core) (n : ℕ) → core c n < 2 ^ n
core_low Empty n = pow_pos n
core_low Full n = ones_lt n

pub core_cut : (c : Core) (n : ℕ) (xs : List ℕ) → Keeps c n xs → cut xs (core c n) ≡ core c (length xs)
core_cut Empty n xs keeps = cut_empty xs
core_cut Full n xs below = cut_whole n xs below

-- a set below the width is cut to a core only where every core is
pub cut_core : (c : Core) (n : ℕ) (xs : List ℕ) (g : ℕ) → g < 2 ^ n → cut xs g ≡ core c (length xs) → Keeps c n xs
cut_core Empty n xs g low e = tt
cut_core Full n xs g low e = whole_cut n xs g (λ i t. ⊎_elim (λ l. l) (λ m. absurd (below_bits n g i low m t)) (cases_lt i n)) e

-- ---- values that have it

pub never_cored : (c : Core) (n : ℕ) → Cored c (never n)
never_cored c n g t = t

pub joined_cored : (c : Core) (a b : Value) → a.width ≡ b.width → Cored c a → Cored c b → Cored c (joined a b)
joined_cored c a b same cored_a cored_b g t =
    let k = core c a.width in
    ⊎_elim (λ l. or_left (a.has k) (b.has k) (cored_a g l))
    (λ r. or_right (a.has k) (b.has k) (subst (λ (n : ℕ). T (b.has (core c n))) (sym same) (cored_b g r)))
    (or_split (a.has g) (b.has g) t)

pub viewed_cored : (c : Core) (a : Value) (xs : List ℕ) → Keeps c a.width xs → Cored c a → Cored c (viewed a xs)
viewed_cored c a xs keeps cored h t =
    let (g, held, e) = viewed_some a xs h t in
    let n = a.width in
    subst (λ (k : ℕ). T (viewed_has a xs k)) (core_cut c n xs keeps) (some_viewed a xs (core c n) (core_low c n) (cored g held))
