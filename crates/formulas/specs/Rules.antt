-- The functions of ground formulas in plain words: which models each gives.
use Rattle.std.specs.Prelude.{ℕ, ◌^◌, ◌<◌, T, ◌↔◌, List}
use Rattle.domain.specs.Variables.{Listed}
use Rattle.families.specs.Masks.{bit, cut}
use Rattle.rows.specs.Values.{Value, Gives}

-- the models that have x just where they have all of ys
abbrev pub TieRule : Value → ℕ → List ℕ → Value → Type 0
TieRule a x ys r = Gives a.width (λ g.
    T (a.has g) × (T (bit g x) ↔ ((y : ℕ) → Listed y ys → T (bit g y)))) r

-- the sets of variables below v that agree with some model on the old variables
abbrev pub EnterRule : Value → ℕ → Value → Type 0
EnterRule a v r = Gives v (λ h.
    (h < 2 ^ v) × ((g : ℕ) × T (a.has g) × ((i : ℕ) → i < a.width → T (bit h i) ↔ T (bit g i)))) r

-- the models of a whose view at the arguments is a model of b
abbrev pub BackRule : Value → List ℕ → Value → Value → Type 0
BackRule a args b r = Gives a.width (λ g. T (a.has g) × T (b.has (cut args g))) r
