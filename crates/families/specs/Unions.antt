-- Unions of selections of sets.
use Rattle.std.specs.Prelude.{◌≡◌, ℕ, Bool, T, List, [], ◌∷◌, bit_or}
use Rattle.domain.specs.Variables.{Listed}
use Rattle.families.specs.Masks.{bit}

-- the union of the sets listed
abbrev pub together : List ℕ → ℕ
together [] = 0
together (g ∷ gs) = bit_or g (together gs)

-- each variable of g is in h
abbrev pub Inside : ℕ → ℕ → Type 0
Inside g h = (i : ℕ) → T (bit g i) → T (bit h i)

-- some sets, each with the property P, whose union is h
pub record Selection (P : ℕ → Type 0) (h : ℕ) : Type 0 where
  pub sets : List ℕ
  pub each : (g : ℕ) → Listed g sets → P g
  pub whole : together sets ≡ h

-- one of the sets listed passes q
abbrev pub One : (ℕ → Bool) → List ℕ → Type 0
One q gs = (g : ℕ) × Listed g gs × T (q g)
