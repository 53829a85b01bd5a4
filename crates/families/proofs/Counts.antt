-- Counting the numbers below a bound that pass a test. Assumes nothing.
use Rattle.std.proofs.Common.{◌≡◌, ℕ, zero, suc, ◌+◌, ◌-◌, ◌/◌, ◌%◌, ◌^◌, ◌<◌, ◌≤◌, Bool, true, false, cond, T, eqb, sym, refl, ap, ◌∙◌, subst, ap₂, ⊎_elim, pow-suc, arith, eqb→eq}
use lib.Count.{ones, ones_step}
use Rattle.std.proofs.lemmas.Bool.{cases_eq, eq-eqb}
use Rattle.families.specs.Masks.{bit, count}
use Rattle.families.proofs.Masks.{bit_zero, bit_suc}

-- ---- more pass, and more are counted

-- one more test counts at most one
pub count_le : (n : ℕ) (p : ℕ → Bool) → count n p ≤ n
unfolding count
count_le zero p = omega arith
count_le (suc n) p = step (p n) (count_le n p)
  where
    step : (b : Bool) → count n p ≤ n → cond b 1 0 + count n p ≤ suc n
    step true l = omega arith
    step false l = omega arith

pub count_grows : (n : ℕ) (p q : ℕ → Bool) → ((k : ℕ) → T (p k) → T (q k)) → count n p ≤ count n q
unfolding count
count_grows zero p q f = omega arith
count_grows (suc n) p q f = step (p n) (q n) (f n) (count_grows n p q f)
  where
    step : (b c : Bool) → (T b → T c) → count n p ≤ count n q → cond b 1 0 + count n p ≤ cond c 1 0 + count n q
    step true true i l = omega arith
    step true false i l = absurd (i tt)
    step false true i l = omega arith
    step false false i l = omega arith

-- where p passes no less often than q, and q wherever p does, they pass alike
pub count_same : (n : ℕ) (p q : ℕ → Bool) → ((k : ℕ) → T (p k) → T (q k)) → count n q ≤ count n p → (k : ℕ) → k < n → T (q k) → T (p k)
unfolding count
count_same zero p q f e k l t = absurd (omega arith)
count_same (suc n) p q f e k l t =
    let rest = count_grows n p q f in
    let parts = step (p n) (q n) (f n) e rest in
    ⊎_elim (λ here. subst (λ (j : ℕ). T (p j)) (sym here) (parts.0 (subst (λ (j : ℕ). T (q j)) here t)))
    (λ d. count_same n p q f parts.1 k (omega arith) t) (cases_eq k n)
  where
    step : (b c : Bool) → (T b → T c) → cond c 1 0 + count n q ≤ cond b 1 0 + count n p → count n p ≤ count n q → (T c → T b) × (count n q ≤ count n p)
    step true true i h l = (λ u. u, omega arith)
    step true false i h l = absurd (i tt)
    step false true i h l = absurd (omega arith)
    step false false i h l = (λ u. u, omega arith)

-- ---- from the low end, and in parts

pub count_zero : (p : ℕ → Bool) → count 0 p ≡ 0
unfolding count
count_zero p = refl

pub count_alike : (n : ℕ) (p q : ℕ → Bool) → ((k : ℕ) → k < n → p k ≡ q k) → count n p ≡ count n q
unfolding count
count_alike zero p q same = refl
count_alike (suc n) p q same =
    ap₂ (λ (b : Bool) (m : ℕ). cond b 1 0 + m) (same n (omega arith)) (count_alike n p q (λ k l. same k (omega arith)))

-- from the low end
count_low : (n : ℕ) (p : ℕ → Bool) → count (suc n) p ≡ cond (p 0) 1 0 + count n (λ k. p (suc k))
unfolding count
count_low zero p = refl
count_low (suc n) p = let rest = count_low n p in omega arith

pub count_more : (m n : ℕ) (p : ℕ → Bool) → count (m + n) p ≡ count m p + count n (λ k. p (m + k))
unfolding count
count_more m zero p = let e : m + 0 ≡ m = omega arith in let f = ap (λ (k : ℕ). count k p) e in omega arith
count_more m (suc n) p =
    let rest = count_more m n p in
    let e : m + suc n ≡ suc (m + n) = omega arith in
    let f : count (m + suc n) p ≡ cond (p (m + n)) 1 0 + count (m + n) p = ap (λ (k : ℕ). count k p) e in
    omega arith

-- the ones of a word
pub ones_count : (n w : ℕ) → w < 2 ^ n → ones w ≡ count n (bit w)
unfolding count ones
ones_count zero w below = let e : w ≡ 0 = omega arith in subst (λ (v : ℕ). ones v ≡ 0) (sym e) refl
ones_count (suc n) w below =
    let half : w / 2 < 2 ^ n = omega (arith, pow-suc 2 n) in
    let rest = ones_count n (w / 2) half in
    let shift : count n (bit (w / 2)) ≡ count n (λ k. bit w (suc k)) = count_alike n (bit (w / 2)) (λ k. bit w (suc k)) (λ k l. sym (bit_suc w k)) in
    let low = lowest (bit w 0) (bit_zero w) in
    let step = ones_step w in
    let whole = count_low n (bit w) in
    omega arith
  where
    lowest : (b : Bool) → b ≡ eqb (w % 2) 1 → cond b 1 0 ≡ w % 2
    lowest true e = let f = eqb→eq (w % 2) 1 (subst T e tt) in omega arith
    lowest false e =
        ⊎_elim (λ one. absurd (subst T (sym (e ∙ eq-eqb (w % 2) 1 one)) tt)) (λ n. omega arith) (cases_eq (w % 2) 1)

-- where nothing passes nothing is counted
pub none_count : (n : ℕ) (p : ℕ → Bool) → ((k : ℕ) → T (p k) → ⊥) → count n p ≡ 0
unfolding count
none_count zero p none = refl
none_count (suc n) p none = step (p n) (none n) (none_count n p none)
  where
    step : (b : Bool) → (T b → ⊥) → count n p ≡ 0 → cond b 1 0 + count n p ≡ 0
    step true f e = absurd (f tt)
    step false f e = omega arith

-- past m nothing passes
pub count_few : (m n : ℕ) (p : ℕ → Bool) → m ≤ n → ((k : ℕ) → T (p k) → k < m) → count n p ≡ count m p
count_few m n p small few =
    let e : n ≡ m + (n - m) = omega arith in
    let split : count n p ≡ count m p + count (n - m) (λ k. p (m + k)) = ap (λ (k : ℕ). count k p) e ∙ count_more m (n - m) p in
    let none = none_count (n - m) (λ k. p (m + k)) (λ k t. let l = few (m + k) t in omega arith) in
    omega arith
