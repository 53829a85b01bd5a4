-- Tests as facts: those of every number below a bound, and those of a set. Assumes nothing.
use Rattle.std.proofs.Common.{ℕ, zero, suc, ◌<◌, Bool, not, ◌||◌, T, List, [], ◌∷◌, sym, refl, subst, inl, inr, ⊎_elim, arith}
use Rattle.domain.specs.Variables.{Listed}
use Rattle.families.specs.Masks.{any, all, meets, covers, bit, within}
use Rattle.std.proofs.lemmas.Bool.{cases_eq}
use Rattle.domain.proofs.Booleans.{and_split, and_pair, or_split, or_left, or_right, implies, implied}

pub any_some : (n : ℕ) (p : ℕ → Bool) → T (any n p) → (k : ℕ) × (k < n) × T (p k)
any_some zero p t = elim t [ ]
any_some (suc n) p t =
    ⊎_elim (λ here. (n, omega arith, here))
    (λ later. let (k, l, h) = any_some n p later in (k, omega arith, h))
    (or_split (p n) (any n p) t)

pub some_any : (n : ℕ) (p : ℕ → Bool) (k : ℕ) → k < n → T (p k) → T (any n p)
some_any zero p k l h = absurd (omega arith)
some_any (suc n) p k l h =
    ⊎_elim (λ e. or_left (p n) (any n p) (subst (λ (j : ℕ). T (p j)) e h))
    (λ d. or_right (p n) (any n p) (some_any n p k (omega arith) h))
    (cases_eq k n)

pub all_each : (n : ℕ) (p : ℕ → Bool) → T (all n p) → (k : ℕ) → k < n → T (p k)
all_each zero p t k l = absurd (omega arith)
all_each (suc n) p t k l =
    let (here, rest) = and_split (p n) (all n p) t in
    ⊎_elim (λ e. subst (λ (j : ℕ). T (p j)) (sym e) here) (λ d. all_each n p rest k (omega arith)) (cases_eq k n)

pub each_all : (n : ℕ) (p : ℕ → Bool) → ((k : ℕ) → k < n → T (p k)) → T (all n p)
each_all zero p f = tt
each_all (suc n) p f = and_pair (p n) (all n p) (f n (omega arith)) (each_all n p (λ k l. f k (omega arith)))

-- ---- the tests of a set

pub meets_some : (ys : List ℕ) (g : ℕ) → T (meets ys g) → (y : ℕ) × Listed y ys × T (bit g y)
meets_some [] g t = elim t [ ]
meets_some (y ∷ ys) g t =
    ⊎_elim (λ here. (y, inl refl, here))
    (λ later. let (z, l, h) = meets_some ys g later in (z, inr l, h))
    (or_split (bit g y) (meets ys g) t)

pub some_meets : (ys : List ℕ) (g y : ℕ) → Listed y ys → T (bit g y) → T (meets ys g)
some_meets [] g y l h = elim l [ ]
some_meets (z ∷ ys) g y (inl e) h = or_left (bit g z) (meets ys g) (subst (λ (j : ℕ). T (bit g j)) e h)
some_meets (z ∷ ys) g y (inr l) h = or_right (bit g z) (meets ys g) (some_meets ys g y l h)

pub covers_each : (ys : List ℕ) (g : ℕ) → T (covers ys g) → (y : ℕ) → Listed y ys → T (bit g y)
covers_each [] g t y l = elim l [ ]
covers_each (z ∷ ys) g t y (inl e) = subst (λ (k : ℕ). T (bit g k)) (sym e) (and_split (bit g z) (covers ys g) t).0
covers_each (z ∷ ys) g t y (inr l) = covers_each ys g (and_split (bit g z) (covers ys g) t).1 y l

pub each_covers : (ys : List ℕ) (g : ℕ) → ((y : ℕ) → Listed y ys → T (bit g y)) → T (covers ys g)
each_covers [] g f = tt
each_covers (z ∷ ys) g f = and_pair (bit g z) (covers ys g) (f z (inl refl)) (each_covers ys g (λ y l. f y (inr l)))

pub within_at : (n g h : ℕ) → T (within n g h) → (i : ℕ) → i < n → T (bit g i) → T (bit h i)
within_at n g h t i l = implies (bit g i) (bit h i) (all_each n (λ i. not (bit g i) || bit h i) t i l)

pub at_within : (n g h : ℕ) → ((i : ℕ) → i < n → T (bit g i) → T (bit h i)) → T (within n g h)
at_within n g h f = each_all n (λ i. not (bit g i) || bit h i) (λ i l. implied (bit g i) (bit h i) (f i l))
