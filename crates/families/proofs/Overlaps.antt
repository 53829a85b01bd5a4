-- Sets that have a variable in common, where one of them is that of listed variables. Assumes nothing.
use Rattle.std.proofs.Common.{◌≡◌, ℕ, suc, ◌%◌, ◌<◌, T, eqb, ◌⊎◌, ◌↔◌, List, sym, refl, subst, inl, inr, ⊎_elim, arith, eqb→eq, T_not}
use lib.Arith.{bin_ind}
use lib.Bits.{bit_and, bit_or}
use lib.Dec.{eqb_refl, not_T}
use Rattle.std.proofs.lemmas.Bool.{cases_eq, cases_lt}
use Rattle.domain.specs.Variables.{Below, widest}
use Rattle.families.specs.Masks.{bit, meets, covers, overlaps, alone, coded}
use Rattle.families.specs.Words.{sets}
use Rattle.domain.proofs.Booleans.{and_split, and_pair, or_split, or_left, or_right, same_test}
use Rattle.families.proofs.Loops.{or_inside, inside_or}
use Rattle.families.proofs.Tests.{meets_some, some_meets, covers_each, each_covers}
use Rattle.families.proofs.Masks.{bit_zero, bit_suc, zero_bits, below_bits, bit_of_and, bit_of_or, alone_bits, coded_bits}

-- a set that is not empty has a variable
some_bit : (g : ℕ) → (g ≡ 0 → ⊥) → (i : ℕ) × T (bit g i)
some_bit =
    bin_ind (λ (g : ℕ). (g ≡ 0 → ⊥) → (i : ℕ) × T (bit g i)) (λ n. absurd (n refl))
    (λ g ih n.
    ⊎_elim (λ odd. (0, subst T (sym (bit_zero g)) (subst (λ (k : ℕ). T (eqb k 1)) (sym odd) tt)))
    (λ even.
    let (i, t) = ih (λ e. n (omega arith)) in
    (suc i, subst T (sym (bit_suc g i)) t))
    (cases_eq (g % 2) 1))

pub overlaps_bits : (g h : ℕ) → T (overlaps g h) ↔ ((i : ℕ) × T (bit g i) × T (bit h i))
overlaps_bits g h = (
  λ t.
      let (i, b) = some_bit (bit_and g h) (λ e. T_not (eqb (bit_and g h) 0) t (subst (λ (k : ℕ). T (eqb k 0)) (sym e) tt)) in
      let (l, r) = and_split (bit g i) (bit h i) (subst T (bit_of_and g h i) b) in
      (i, l, r),
  λ k.
      let (i, l, r) = k in
      not_T (eqb (bit_and g h) 0)
      (λ t.
      zero_bits i
      (subst (λ (m : ℕ). T (bit m i)) (eqb→eq (bit_and g h) 0 t) (subst T (sym (bit_of_and g h i)) (and_pair (bit g i) (bit h i) l r)))),
)

pub overlaps_or : (g l r : ℕ) → T (overlaps g (bit_or l r)) ↔ (T (overlaps g l) ⊎ T (overlaps g r))
overlaps_or g l r = (
  λ t.
      let (i, a, b) = (overlaps_bits g (bit_or l r)).0 t in
      ⊎_elim (λ c. inl ((overlaps_bits g l).1 (i, a, c))) (λ c. inr ((overlaps_bits g r).1 (i, a, c)))
      (or_split (bit l i) (bit r i) (subst T (bit_of_or l r i) b)),
  λ k.
      ⊎_elim
      (λ t. let (i, a, b) = (overlaps_bits g l).0 t in (overlaps_bits g (bit_or l r)).1 (i, a, subst T (sym (bit_of_or l r i)) (or_left (bit l i) (bit r i) b)))
      (λ t. let (i, a, b) = (overlaps_bits g r).0 t in (overlaps_bits g (bit_or l r)).1 (i, a, subst T (sym (bit_of_or l r i)) (or_right (bit l i) (bit r i) b)))
      k,
)

-- a variable of a set below the largest width
variable_below : (g i : ℕ) → g < sets → T (bit g i) → i < widest
variable_below g i low t = ⊎_elim (λ l. l) (λ high. absurd (below_bits widest g i low high t)) (cases_lt i widest)

module _ (g : ℕ) (low : g < sets) where
  pub overlaps_alone : (x : ℕ) → T (overlaps g (alone x)) ↔ T (bit g x)
  overlaps_alone x = (
    λ t. let (i, a, b) = (overlaps_bits g (alone x)).0 t in subst (λ (j : ℕ). T (bit g j)) ((alone_bits x i).0 b).0 a,
    λ t. (overlaps_bits g (alone x)).1 (x, t, (alone_bits x x).1 (refl, variable_below g x low t)),
  )

  pub overlaps_coded : (ys : List ℕ) → T (overlaps g (coded ys)) ↔ T (meets ys g)
  overlaps_coded ys = (
    λ t. let (i, a, b) = (overlaps_bits g (coded ys)).0 t in some_meets ys g i ((coded_bits ys i).0 b).0 a,
    λ t. let (y, l, b) = meets_some ys g t in (overlaps_bits g (coded ys)).1 (y, b, (coded_bits ys y).1 (l, variable_below g y low b)),
  )

-- ---- a set that has all that is listed

pub covers_coded : (ys : List ℕ) → Below widest ys → (g : ℕ) → eqb (bit_or (coded ys) g) g ≡ covers ys g
covers_coded ys below g =
    same_test (eqb (bit_or (coded ys) g) g) (covers ys g)
    (λ t.
    let inner = or_inside (coded ys) g (eqb→eq (bit_or (coded ys) g) g t) in
    each_covers ys g (λ y l. inner y ((coded_bits ys y).1 (l, below y l))))
    (λ t.
    let e = inside_or (coded ys) g (λ i b. covers_each ys g t i ((coded_bits ys i).0 b).0) in
    subst (λ (k : ℕ). T (eqb k g)) (sym e) (eqb_refl g))
