-- Values that are sets of sets of variables over a width, with their order: what the domains have in common whose
-- values are such sets.
use Rattle.std.specs.Prelude.{◌≡◌, ℕ, ◌^◌, ◌<◌, Bool, false, ◌&&◌, ◌||◌, T, ◌↔◌, List, length, ◌==◌}
use Rattle.families.specs.Masks.{cut, any, count}

-- a width, and which sets of the variables below it are held
pub record Value : Type 0 where
  pub width : ℕ
  pub has : ℕ → Bool

-- inclusion, at one width
abbrev pub Under : Value → Value → Type 0
Under a b = (a.width ≡ b.width) × ((g : ℕ) → T (a.has g) → T (b.has g))

-- no set at all: the least value of a width
abbrev pub never : ℕ → Value
never n = record { width = n; has = λ g. false }

-- union
abbrev pub joined : Value → Value → Value
joined a b = record { width = a.width; has = λ g. a.has g || b.has g }

-- each set cut down to the variables listed, and renumbered
abbrev pub viewed_has : Value → List ℕ → ℕ → Bool
viewed_has a xs h = any (2 ^ a.width) (λ g. a.has g && h == cut xs g)

abbrev pub viewed : Value → List ℕ → Value
viewed a xs = record { width = length xs; has = viewed_has a xs }

-- how many sets are held
abbrev pub rank : Value → ℕ
rank a = count (2 ^ a.width) a.has

-- no set has a variable past the width
abbrev pub Fits : Value → Type 0
Fits a = (g : ℕ) → T (a.has g) → g < 2 ^ a.width

-- ---- in plain words

-- r has the width n, and the set h just where `Given h`
pub record Gives (n : ℕ) (Given : ℕ → Type 0) (r : Value) : Type 0 where
  pub width : r.width ≡ n
  pub sets : (h : ℕ) → T (r.has h) ↔ Given h

-- the cuts of the sets at the variables xs
abbrev pub ViewRule : Value → List ℕ → Value → Type 0
ViewRule a xs r = Gives (length xs) (λ h. (g : ℕ) × T (a.has g) × (h ≡ cut xs g)) r
