-- Sets of variables as they are listed: which family they make, and when they are refused.
use Rattle.std.specs.Prelude.{◌≡◌, ℕ, ◌<◌, ◌≤◌, T, ◌⊎◌, ◌↔◌, List, [], ◌∷◌, Option, Some, None, Result, MatchResult}
use Rattle.std.specs.Borrow.{Bor}
use Rattle.domain.specs.declared.refusal.Refusal.{Refusal}
use Rattle.domain.specs.declared.refusal.Refusal.TheVariants.{Width, Variable}
use Rattle.domain.specs.Variables.{Listed, Below, widest}
use Rattle.families.specs.Masks.{bit}
use Rattle.families.specs.Words.{holds, sets}
use Rattle.families.specs.declared.family.Family.{Family}

-- each variable of each set is below n
abbrev pub Within : ℕ → List (Bor (List ℕ)) → Type 0
Within n [] = Unit {0}
Within n (xs ∷ xss) = Below n xs.now × Within n xss

-- g is the set of the variables listed, as far as they are below the largest width
abbrev pub Coded : List ℕ → ℕ → Type 0
Coded xs g = (i : ℕ) → T (bit g i) ↔ (Listed i xs × (i < widest))

-- g is one of the sets
abbrev pub Codes : List (Bor (List ℕ)) → ℕ → Type 0
Codes [] g = ⊥
Codes (xs ∷ xss) g = Coded xs.now g ⊎ Codes xss g

-- the sets listed, or none at all for never
abbrev pub Listing : Type 0
Listing = Option (Bor (List (Bor (List ℕ))))

-- every variable listed is below n
abbrev pub InBounds : ℕ → Listing → Type 0
InBounds n None = Unit {0}
InBounds n (Some xss) = Within n xss.now

-- h is one of the sets meant: none is for never; else the core is, and those listed
abbrev pub Meant : ℕ → Listing → ℕ → Type 0
Meant core None h = ⊥
Meant core (Some xss) h = ((h ≡ core) × (core < sets)) ⊎ Codes xss.now h

-- the first test that fails
abbrev pub Refused : ℕ → Listing → Refusal → Type 0
Refused n l e = ((e ≡ Width) × (widest < n)) ⊎ ((e ≡ Variable) × (n ≤ widest) × (InBounds n l → ⊥))

-- the family of the sets meant, or the refusal
abbrev pub Lists : ℕ → ℕ → Listing → Result Family Refusal → Type 0
Lists n core l r = MatchResult r
    (λ f. (n ≤ widest) × InBounds n l × ((h : ℕ) → T (holds f h) ↔ Meant core l h))
    (λ e. Refused n l e)
