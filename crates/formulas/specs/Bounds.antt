-- What the functions of ground formulas give where their variables are those of the value, and where not.
use Rattle.std.specs.Prelude.{◌≡◌, ℕ, ◌^◌, ◌<◌, Bool, T, ◌↔◌, List, length, nat_lt}
use Rattle.domain.specs.Model.{Sides}
use Rattle.domain.specs.Variables.{Below}
use Rattle.rows.specs.Values.{Value}
use Rattle.formulas.specs.Formulas.{formulas, tied, backed, Ground, Apart}
use Rattle.formulas.specs.Rules.{TieRule, BackRule}

-- ---- tie

abbrev pub TieReads : Value → ℕ → List ℕ → Value → Type 0
TieReads a x ys r = Sides formulas a x ys → r ≡ tied a x ys

abbrev pub TieFollows : Value → ℕ → List ℕ → Value → Type 0
TieFollows a x ys r = Sides formulas a x ys → TieRule a x ys r

-- ---- view

-- every set of variables is a model: nothing is known
abbrev pub unknown : ℕ → Value
unknown n = record { width = n; has = λ g. nat_lt g (2 ^ n) }

-- at variables past the width nothing is known
abbrev pub ViewPast : Value → List ℕ → Value → Type 0
ViewPast a xs r = (Below a.width xs → ⊥) → r ≡ unknown (length xs)

-- ---- back

-- the arguments are variables of a, and b has a place for each
abbrev pub Matches : Value → List ℕ → Value → Type 0
Matches a args b = Below a.width args × (b.width ≡ length args)

abbrev pub BackReads : Value → List ℕ → Value → Value → Type 0
BackReads a args b r = Matches a args b → r ≡ backed a args b

abbrev pub BackFollows : Value → List ℕ → Value → Value → Type 0
BackFollows a args b r = Matches a args b → BackRule a args b r

-- ---- the verdicts

abbrev pub GroundFollows : Value → ℕ → Bool → Type 0
GroundFollows a x r = x < a.width → T r ↔ Ground a x

abbrev pub ApartFollows : Value → ℕ → ℕ → Bool → Type 0
ApartFollows a x y r = x < a.width → y < a.width → T r ↔ Apart a x y
