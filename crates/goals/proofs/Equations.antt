-- What holds of the two sides of a goal, as it holds of the list of its variables. Assumes nothing.
use Rattle.std.proofs.Common.{◌≡◌, ℕ, ◌<◌, ◌↔◌, List, ◌∷◌, refl, sym, subst, ap₂, inl, inr}
use Rattle.domain.specs.Model.{Model, AlwaysApart}
use Rattle.domain.specs.Variables.{Listed, Below}
use Rattle.goals.specs.Goals.{left_of, right_of, variables, ApartFrom, ApartAll}
use Rattle.goals.specs.declared.goal.Goal.{Goal}

below_cons : (n x : ℕ) (ys : List ℕ) → ((x < n) × Below n ys) ↔ Below n (x ∷ ys)
below_cons n x ys = (below, λ all. (all x (inl refl), λ y l. all y (inr l)))
  where
    below : (x < n) × Below n ys → Below n (x ∷ ys)
    below b y (inl e) = subst (λ (k : ℕ). k < n) (sym e) b.0
    below b y (inr l) = b.1 y l

-- x and ys are the sides of the goal g
pub below_sides : {x : ℕ} {ys : List ℕ} (n : ℕ) (g : Goal) → x ≡ left_of g → ys ≡ right_of g → ((x < n) × Below n ys) ↔ Below n (variables g)
below_sides {x} {ys} n g left right =
    subst (λ (zs : List ℕ). ((x < n) × Below n ys) ↔ Below n zs) (ap₂ ◌∷◌ left right) (below_cons n x ys)

module _ {Words : Type 0} (m : Model Words) (w : Words) where
  apart_cons : (x : ℕ) (xs ys : List ℕ) → (ApartFrom m w x ys × ApartAll m w xs ys) ↔ ApartAll m w (x ∷ xs) ys
  apart_cons x xs ys = (apart, λ all. (λ y. all x y (inl refl), λ z y l. all z y (inr l)))
    where
      apart : ApartFrom m w x ys × ApartAll m w xs ys → ApartAll m w (x ∷ xs) ys
      apart a z y (inl e) = subst (λ (k : ℕ). Listed y ys → AlwaysApart m (m.read w) k y) (sym e) (a.0 y)
      apart a z y (inr l) = a.1 z y l

  -- x and xs are the sides of the goal f, and y and ys of g
  pub apart_sides : {x y : ℕ} {xs ys : List ℕ} (f g : Goal) → x ≡ left_of f → xs ≡ right_of f → y ≡ left_of g → ys ≡ right_of g → (ApartFrom m w x (y ∷ ys) × ApartAll m w xs (y ∷ ys)) ↔ ApartAll m w (variables f) (variables g)
  apart_sides {x} {y} {xs} {ys} f g x_is xs_is y_is ys_is =
      let parts = ApartFrom m w x (y ∷ ys) × ApartAll m w xs (y ∷ ys) in
      subst (λ (us : List ℕ). parts ↔ ApartAll m w us (variables g)) (ap₂ ◌∷◌ x_is xs_is)
      (subst (λ (vs : List ℕ). parts ↔ ApartAll m w (x ∷ xs) vs) (ap₂ ◌∷◌ y_is ys_is) (apart_cons x xs (y ∷ ys)))
