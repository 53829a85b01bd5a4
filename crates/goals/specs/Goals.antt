-- The two sides of an equation, by their variables; what a goal does to a row, and goals that share nothing.
use Rattle.std.specs.Prelude.{◌≡◌, ℕ, ◌<◌, Bool, false, T, List, [], ◌∷◌}
use Rattle.domain.specs.Model.{Model, AlwaysApart}
use Rattle.domain.specs.Variables.{Listed, Below}
use Rattle.goals.specs.declared.goal.Goal.{Goal}
use Rattle.goals.specs.declared.goal.Goal.TheVariants.{Same, Build}
use Rattle.goals.specs.declared.sides.Sides.{Sides}

abbrev pub left_of : Goal → ℕ
left_of (Same x y) = x
left_of (Build x f ys) = x

abbrev pub right_of : Goal → List ℕ
right_of (Same x y) = y ∷ []
right_of (Build x f ys) = ys.now

abbrev pub variables : Goal → List ℕ
variables g = left_of g ∷ right_of g

-- ---- in a domain

module _ {Words : Type 0} (m : Model Words) where
  -- the variables of the goal are those of the row w
  abbrev pub Inside : Words → Goal → Type 0
  Inside w g = Below (m.width (m.read w)) (variables g)

  -- so are those of two sides
  abbrev pub SidesInside : Words → Sides → Type 0
  SidesInside w s = (s.x < m.width (m.read w)) × Below (m.width (m.read w)) s.ys.now

  -- r is the row after the goal: it is read as the tie of the goal's sides, or is as it was where the goal is not inside
  abbrev pub After : Words → Goal → Words → Type 0
  After w g r =
      (Inside w g → m.read r ≡ m.tied (m.read w) (left_of g) (right_of g))
      × ((Inside w g → ⊥) → r ≡ w)

  -- in every list described, x shares with no variable of ys
  abbrev pub ApartFrom : Words → ℕ → List ℕ → Type 0
  ApartFrom w x ys = (y : ℕ) → Listed y ys → AlwaysApart m (m.read w) x y

  -- in every list described, no variable of xs shares with one of ys
  abbrev pub ApartAll : Words → List ℕ → List ℕ → Type 0
  ApartAll w xs ys = (x y : ℕ) → Listed x xs → Listed y ys → AlwaysApart m (m.read w) x y

  -- r says whether, in every list described, no variable of the one goal shares with one of the other; it is no where a
  -- goal is not inside
  abbrev pub Side : Words → Goal → Goal → Bool → Type 0
  Side w f g r =
      (T r → ApartAll w (variables f) (variables g))
      × (Inside w f × Inside w g → ApartAll w (variables f) (variables g) → T r)
      × ((Inside w f × Inside w g → ⊥) → r ≡ false)
