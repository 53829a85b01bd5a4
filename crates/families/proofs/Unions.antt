-- Unions of sets, selections of them, and the sets below a bound that pass a test, as a list. Assumes nothing.
use Rattle.std.proofs.Common.{◌≡◌, ℕ, zero, suc, ◌^◌, ◌<◌, Bool, true, false, cond, T, List, [], ◌∷◌, sym, refl, ◌∙◌, subst, inl, inr, ⊎_elim, arith, pow_pos}
use lib.Bits.{bit_or, or_lt, or_zero_l, or_zero_r}
use Rattle.std.specs.List.{fold}
use Rattle.std.proofs.lemmas.Bool.{cases_eq}
use Rattle.domain.specs.Variables.{Listed}
use Rattle.families.specs.Masks.{bit}
use Rattle.families.specs.Unions.{together, Selection, One}
use Rattle.domain.proofs.Booleans.{or_split, or_left, or_right}
use Rattle.families.proofs.Masks.{zero_bits, bit_of_or, or_assoc}

-- ---- the variables of a union

pub together_one : (gs : List ℕ) (i : ℕ) → T (bit (together gs) i) → One (λ g. bit g i) gs
together_one [] i t = absurd (zero_bits i t)
together_one (g ∷ gs) i t =
    ⊎_elim (λ here. (g, inl refl, here)) (λ later. let (k, l, h) = together_one gs i later in (k, inr l, h))
    (or_split (bit g i) (bit (together gs) i) (rw bit_of_or at t))

pub one_together : (gs : List ℕ) (g i : ℕ) → Listed g gs → T (bit g i) → T (bit (together gs) i)
one_together [] g i l t = elim l [ ]
one_together (k ∷ gs) g i (inl e) t = rw bit_of_or (or_left (bit k i) (bit (together gs) i) (subst (λ (j : ℕ). T (bit j i)) e t))
one_together (k ∷ gs) g i (inr l) t = rw bit_of_or (or_right (bit k i) (bit (together gs) i) (one_together gs g i l t))

pub together_below : (gs : List ℕ) (n : ℕ) → ((g : ℕ) → Listed g gs → g < 2 ^ n) → together gs < 2 ^ n
together_below [] n f = pow_pos n
together_below (g ∷ gs) n f = or_lt n g (together gs) (f g (inl refl)) (together_below gs n (λ k l. f k (inr l)))

-- one after the other
folded : (gs : List ℕ) (all : ℕ) → fold bit_or all gs ≡ bit_or all (together gs)
folded [] all = sym (or_zero_r all)
folded (g ∷ gs) all = folded gs (bit_or all g) ∙ or_assoc all g (together gs)

pub fold_together : (gs : List ℕ) → fold bit_or 0 gs ≡ together gs
fold_together gs = folded gs 0 ∙ or_zero_l (together gs)

-- ---- the numbers below n that pass

pub members : ℕ → (ℕ → Bool) → List ℕ
members zero t = []
members (suc n) t = cond (t n) (n ∷ members n t) (members n t)

pub member_passes : (n : ℕ) (t : ℕ → Bool) (g : ℕ) → Listed g (members n t) → (g < n) × T (t g)
unfolding members
member_passes zero t g l = elim l [ ]
member_passes (suc n) t g l = go (t n) refl (member_passes n t g) l
  where
    go : (b : Bool) → t n ≡ b → (Listed g (members n t) → (g < n) × T (t g)) → Listed g (cond b (n ∷ members n t) (members n t)) → (g < suc n) × T (t g)
    go true e rest (inl here) = (omega arith, rw (here, e) tt)
    go true e rest (inr m) = let k = rest m in (omega arith, k.1)
    go false e rest m = let k = rest m in (omega arith, k.1)

pub passes_member : (n : ℕ) (t : ℕ → Bool) (g : ℕ) → g < n → T (t g) → Listed g (members n t)
unfolding members
passes_member zero t g l h = absurd (omega arith)
passes_member (suc n) t g l h = go (t n) refl (passes_member n t g)
  where
    go : (b : Bool) → t n ≡ b → (g < n → T (t g) → Listed g (members n t)) → Listed g (cond b (n ∷ members n t) (members n t))
    go true e rest = ⊎_elim (λ here. inl here) (λ d. inr (rest (omega arith) h)) (cases_eq g n)
    go false e rest =
        ⊎_elim (λ here. let h' : T (t n) = subst (λ (k : ℕ). T (t k)) here h in absurd (subst (λ (b : Bool). T b) e h'))
        (λ d. rest (omega arith) h) (cases_eq g n)

-- the same sets with another property
pub selection_map : {P Q : ℕ → Type 0} (h : ℕ) → ((g : ℕ) → P g → Q g) → Selection P h → Selection Q h
selection_map h f s = record { sets = s.sets; each = λ g l. f g (s.each g l); whole = s.whole }

pub selection_below : {P : ℕ → Type 0} (n h : ℕ) → ((g : ℕ) → P g → g < 2 ^ n) → Selection P h → h < 2 ^ n
selection_below n h low s = subst (λ (k : ℕ). k < 2 ^ n) s.whole (together_below s.sets n (λ g l. low g (s.each g l)))
