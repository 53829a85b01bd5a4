-- Figures, and when they stand: where the definitions of the domain give the value expected.
use Rattle.std.specs.Prelude.{◌≡◌, ℕ, zero, suc, ◌^◌, Bool, false, ◌||◌, List, [], ◌∷◌, Some, None, map, ◌==◌}
use Rattle.families.specs.Listings.{Listing}
use Rattle.families.specs.Masks.{coded}
use Rattle.rows.specs.Values.{Value, viewed}
use Rattle.sharing.specs.Sharing.{tied as shared_tied, entered as shared_entered, backed as shared_backed}
use Rattle.formulas.specs.Formulas.{tied, entered, backed}
use Rattle.figures.specs.declared.figure.Kind.{Kind}
use Rattle.figures.specs.declared.figure.Kind.TheVariants.{Sharing, Formulas}
use Rattle.figures.specs.declared.figure.Function.{Function}
use Rattle.figures.specs.declared.figure.Function.TheVariants.{Tie, View, Enter, Back}
use Rattle.figures.specs.declared.figure.Listed.{Listed}
use Rattle.figures.specs.declared.figure.Figure.{Figure}

-- the sets listed, as masks
abbrev pub masks : Listing → List ℕ
masks None = []
masks (Some xss) = map (λ xs. coded xs.now) xss.now

-- g is one of them
abbrev pub among : List ℕ → ℕ → Bool
among [] g = false
among (h ∷ hs) g = h == g || among hs g

-- the value of the width with just the sets listed
abbrev pub value : Listed → Value
value l = record { width = l.0; has = among (masks l.1) }

-- what a function gives, by the definitions of the domain
abbrev pub gives : Kind → Function → Value → Value
gives Sharing (Tie x ys) a = shared_tied a x ys.now
gives Sharing (View xs) a = viewed a xs.now
gives Sharing (Enter v) a = shared_entered a v
gives Sharing (Back args end) a = shared_backed a args.now (value end)
gives Formulas (Tie x ys) a = tied a x ys.now
gives Formulas (View xs) a = viewed a xs.now
gives Formulas (Enter v) a = entered a v
gives Formulas (Back args end) a = backed a args.now (value end)

-- the two tests agree on every number below n
abbrev pub Agree : ℕ → (ℕ → Bool) → (ℕ → Bool) → Type 0
Agree zero p q = Unit {0}
Agree (suc n) p q = (p n ≡ q n) × Agree n p q

-- one width, and the same sets of the variables below it
abbrev pub Same : Value → Value → Type 0
Same a b = (a.width ≡ b.width) × Agree (2 ^ a.width) a.has b.has

-- every figure stands: its function gives the value expected
abbrev pub Stands : List Figure → Type 0
Stands [] = Unit {0}
Stands (f ∷ fs) = Same (gives f.kind f.function (value f.given)) (value f.expected) × Stands fs
