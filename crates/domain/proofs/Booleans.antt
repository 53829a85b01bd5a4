-- Tests as facts: `&&`, `||` and `not`. Assumes nothing.
use Rattle.std.proofs.Common.{◌≡◌, Bool, true, false, not, ◌&&◌, ◌||◌, T, ◌⊎◌, sym, refl, subst, inl, inr, ⊎_elim}

pub and_split : (b c : Bool) → T (b && c) → T b × T c
and_split true c t = (tt, t)
and_split false c t = elim t [ ]

pub and_pair : (b c : Bool) → T b → T c → T (b && c)
and_pair true c t r = r
and_pair false c t r = elim t [ ]

pub or_split : (b c : Bool) → T (b || c) → T b ⊎ T c
or_split true c t = inl tt
or_split false c t = inr t

pub or_left : (b c : Bool) → T b → T (b || c)
or_left true c t = tt
or_left false c t = elim t [ ]

pub or_right : (b c : Bool) → T c → T (b || c)
or_right true c t = tt
or_right false c t = t

-- what an answer of true, or of false, says
pub shown : (b : Bool) → true ≡ b → T b
shown b e = subst T e tt

pub denied : (b : Bool) → false ≡ b → T b → ⊥
denied b e t = subst T (sym e) t

-- a part that is true, or false, drops out
pub and_true : (b c : Bool) → c ≡ true → b ≡ (b && c)
and_true true c e = sym e
and_true false c e = refl

pub or_false : (b c : Bool) → c ≡ false → b ≡ (b || c)
or_false true c e = refl
or_false false c e = sym e

pub tested : (b : Bool) → T b ⊎ (T b → ⊥)
tested true = inl tt
tested false = inr (λ t. t)

pub and_grows : (b c b' c' : Bool) → (T b → T b') → (T c → T c') → T (b && c) → T (b' && c')
and_grows b c b' c' f g t = let (l, r) = and_split b c t in and_pair b' c' (f l) (g r)

pub or_grows : (b c b' c' : Bool) → (T b → T b') → (T c → T c') → T (b || c) → T (b' || c')
or_grows b c b' c' f g t = ⊎_elim (λ l. or_left b' c' (f l)) (λ r. or_right b' c' (g r)) (or_split b c t)

-- two tests that pass together are one
pub same_test : (b c : Bool) → (T b → T c) → (T c → T b) → b ≡ c
same_test true true f g = refl
same_test true false f g = absurd (f tt)
same_test false true f g = absurd (g tt)
same_test false false f g = refl

-- a test `not b || c` is an implication
pub implies : (b c : Bool) → T (not b || c) → T b → T c
implies true c t r = t
implies false c t r = elim r [ ]

pub implied : (b c : Bool) → (T b → T c) → T (not b || c)
implied true c f = f tt
implied false c f = tt
