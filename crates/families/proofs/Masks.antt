-- The bits of a mask: a mask is given by its bits; those of packed bits, of a cut, of a power of two, of a union, of
-- an intersection and of listed variables. Assumes nothing.
use Rattle.std.proofs.Common.{◌≡◌, ℕ, zero, suc, ◌+◌, ◌*◌, ◌/◌, ◌%◌, ◌^◌, ◌<◌, ◌≤◌, Bool, true, false, cond, ◌&&◌, ◌||◌, T, eqb, ltb, ◌⊎◌, ◌↔◌, List, [], ◌∷◌, map, length, get_or, sym, refl, ap, ◌∙◌, subst, inl, inr, ⊎_elim, pow-suc, div-one, one-add, arith, eqb→eq}
use lib.Arith.{bin_ind}
use lib.Bits.{bit_and, bit_or, and_shr, and_step, or_shr, or_step}
use Rattle.std.proofs.lemmas.Nat.{shr-shr}
use Rattle.std.proofs.lemmas.Bool.{cases_eq, ltb-true, ltb-false}
use Rattle.domain.specs.Variables.{Listed, widest}
use Rattle.families.specs.Masks.{bit, pack, cut, meets, alone, coded}
use Rattle.domain.proofs.Booleans.{and_split, and_pair, or_split, or_left, or_right, same_test}
use Rattle.families.proofs.Tests.{meets_some}

-- ---- bit by bit, the lowest first

pub bit_zero : (g : ℕ) → bit g 0 ≡ eqb (g % 2) 1
bit_zero g = ap (λ (n : ℕ). eqb (n % 2) 1) (div-one g)

pub bit_suc : (g i : ℕ) → bit g (suc i) ≡ bit (g / 2) i
bit_suc g i =
    ap (λ (n : ℕ). eqb (n % 2) 1)
    (ap (λ (k : ℕ). g / 2 ^ k) (sym (one-add i)) ∙ sym (shr-shr g 1 i))

pub odd_from_bit : (g : ℕ) → T (bit g 0) → g % 2 ≡ 1
odd_from_bit g t = eqb→eq (g % 2) 1 (rw bit_zero at t)

pub bit_from_odd : (g : ℕ) → g % 2 ≡ 1 → T (bit g 0)
bit_from_odd g e = rw (bit_zero, e) tt

-- ---- a mask is given by its bits

pub zero_bits : (i : ℕ) → T (bit 0 i) → ⊥
zero_bits zero t = let e = odd_from_bit 0 t in omega arith
zero_bits (suc i) t = zero_bits i (rw bit_suc at t)

pub no_bits : (g : ℕ) → ((i : ℕ) → T (bit g i) → ⊥) → g ≡ 0
no_bits =
    bin_ind (λ (g : ℕ). ((i : ℕ) → T (bit g i) → ⊥) → g ≡ 0) (λ f. refl)
    (λ g ih f.
    let high : g / 2 ≡ 0 = ih (λ i t. f (suc i) (rw bit_suc t)) in
    let low : g % 2 ≡ 1 → ⊥ = λ e. f 0 (bit_from_odd g e) in
    omega arith)

pub same_bits : (g h : ℕ) → ((i : ℕ) → T (bit g i) → T (bit h i)) → ((i : ℕ) → T (bit h i) → T (bit g i)) → g ≡ h
same_bits =
    bin_ind (λ (g : ℕ). (h : ℕ) → ((i : ℕ) → T (bit g i) → T (bit h i)) → ((i : ℕ) → T (bit h i) → T (bit g i)) → g ≡ h)
    (λ h to from. sym (no_bits h (λ i t. zero_bits i (from i t))))
    (λ g ih h to from.
    let high : g / 2 ≡ h / 2 =
    ih (h / 2) (λ i t. rw bit_suc at (to (suc i) (rw bit_suc t))) (λ i t. rw bit_suc at (from (suc i) (rw bit_suc t))) in
    let up : g % 2 ≡ 1 → h % 2 ≡ 1 = λ e. odd_from_bit h (to 0 (bit_from_odd g e)) in
    let down : h % 2 ≡ 1 → g % 2 ≡ 1 = λ e. odd_from_bit g (from 0 (bit_from_odd h e)) in
    ⊎_elim (λ e. let e' = up e in omega arith) (λ n. let n' : h % 2 ≡ 1 → ⊥ = λ e. n (down e) in omega arith)
    (cases_eq (g % 2) 1))

-- the masks of one property of variables
pub one_mask : (P : ℕ → Type 0) (g h : ℕ) → ((i : ℕ) → T (bit g i) ↔ P i) → ((i : ℕ) → T (bit h i) ↔ P i) → g ≡ h
one_mask P g h p q = same_bits g h (λ i t. (q i).1 ((p i).0 t)) (λ i t. (p i).1 ((q i).0 t))

-- the empty set meets nothing
pub empty_misses : (ys : List ℕ) → T (meets ys 0) → ⊥
empty_misses ys t = let (y, l, b) = meets_some ys 0 t in zero_bits y b

-- ---- a mask below 2 ^ n has no place from n up

pub bits_below : (n g : ℕ) → ((i : ℕ) → n ≤ i → T (bit g i) → ⊥) → g < 2 ^ n
bits_below zero g f = let e = no_bits g (λ i t. f i (omega arith) t) in omega arith
bits_below (suc n) g f =
    let half = bits_below n (g / 2) (λ i l t. f (suc i) (omega arith) (rw bit_suc t)) in
    omega (arith, pow-suc 2 n)

pub below_bits : (n g i : ℕ) → g < 2 ^ n → n ≤ i → T (bit g i) → ⊥
below_bits zero g i l m t = zero_bits i (subst (λ (k : ℕ). T (bit k i)) (omega arith) t)
below_bits (suc n) g zero l m t = omega arith
below_bits (suc n) g (suc i) l m t =
    below_bits n (g / 2) i (omega (arith, pow-suc 2 n)) (omega arith) (rw bit_suc at t)

-- ---- packed bits

packed_low : (m : ℕ) (b : Bool) → bit (2 * m + cond b 1 0) 0 ≡ b
packed_low m true = let odd : (2 * m + 1) % 2 ≡ 1 = omega arith in rw (bit_zero, odd)
packed_low m false = let even : (2 * m + 0) % 2 ≡ 0 = omega arith in rw (bit_zero, even)

packed_high : (m : ℕ) (b : Bool) → (2 * m + cond b 1 0) / 2 ≡ m
packed_high m true = omega arith
packed_high m false = omega arith

pub bit_pack : (bs : List Bool) (i : ℕ) → bit (pack bs) i ≡ get_or bs i false
bit_pack [] i = same_test (bit 0 i) false (zero_bits i) (λ t. absurd t)
bit_pack (b ∷ bs) zero = packed_low (pack bs) b
bit_pack (b ∷ bs) (suc i) =
    bit_suc (2 * pack bs + cond b 1 0) i ∙ ap (λ (m : ℕ). bit m i) (packed_high (pack bs) b) ∙ bit_pack bs i

-- ---- a power of two

pub bit_power : (k : ℕ) → T (bit (2 ^ k) k)
bit_power zero = bit_from_odd 1 refl
bit_power (suc k) =
    rw bit_suc (subst (λ (m : ℕ). T (bit m k)) (omega (arith, pow-suc 2 k)) (bit_power k))

pub power_bit : (k i : ℕ) → T (bit (2 ^ k) i) → i ≡ k
power_bit zero zero t = refl
power_bit zero (suc i) t = absurd (zero_bits i (rw bit_suc at t))
power_bit (suc k) zero t = let e = odd_from_bit (2 ^ suc k) t in absurd (omega (arith, pow-suc 2 k))
power_bit (suc k) (suc i) t =
    ap suc (power_bit k i (subst (λ (m : ℕ). T (bit m i)) (omega (arith, pow-suc 2 k)) (rw bit_suc at t)))

-- ---- a cut

pub bit_cut : (xs : List ℕ) (g i : ℕ) → T (bit (cut xs g) i) ↔ ((i < length xs) × T (bit g (get_or xs i 0)))
bit_cut xs g i =
    let e : bit (pack (map (bit g) xs)) i ≡ get_or (map (bit g) xs) i false = bit_pack (map (bit g) xs) i in
    (λ t. to xs i (rw e at t), λ h. rw e (from xs i h.0 h.1))
  where
    to : (xs : List ℕ) (i : ℕ) → T (get_or (map (bit g) xs) i false) → (i < length xs) × T (bit g (get_or xs i 0))
    to [] i t = elim t [ ]
    to (x ∷ xs) zero t = (omega arith, t)
    to (x ∷ xs) (suc i) t = let (l, h) = to xs i t in (omega arith, h)

    from : (xs : List ℕ) (i : ℕ) → i < length xs → T (bit g (get_or xs i 0)) → T (get_or (map (bit g) xs) i false)
    from [] i l h = absurd (omega arith)
    from (x ∷ xs) zero l h = h
    from (x ∷ xs) (suc i) l h = from xs i (omega arith) h

pub cut_below : (xs : List ℕ) (g : ℕ) → cut xs g < 2 ^ length xs
cut_below xs g = bits_below (length xs) (cut xs g) (λ i l t. let m = ((bit_cut xs g i).0 t).0 in omega arith)

-- the empty set is cut to itself
pub cut_empty : (xs : List ℕ) → cut xs 0 ≡ 0
cut_empty xs = no_bits (cut xs 0) (λ i t. zero_bits (get_or xs i 0) ((bit_cut xs 0 i).0 t).1)

-- ---- unions and intersections

abbrev odd : ℕ → Bool
odd n = eqb (n % 2) 1

odd_or : (m n : ℕ) → odd (bit_or m n) ≡ (odd m || odd n)
odd_or m n =
    let step = or_step m n in
    same_test (odd (bit_or m n)) (odd m || odd n)
    (λ t.
    let e = eqb→eq (bit_or m n % 2) 1 t in
    ⊎_elim (λ l. or_left (odd m) (odd n) (rw l tt))
    (λ l. let r : n % 2 ≡ 1 = omega arith in or_right (odd m) (odd n) (rw r tt))
    (cases_eq (m % 2) 1))
    (λ t.
    let e : bit_or m n % 2 ≡ 1 =
    ⊎_elim (λ l. let k = eqb→eq (m % 2) 1 l in omega arith) (λ r. let k = eqb→eq (n % 2) 1 r in omega arith)
    (or_split (odd m) (odd n) t) in
    rw e tt)

pub bit_of_or : (g h i : ℕ) → bit (bit_or g h) i ≡ (bit g i || bit h i)
bit_of_or g h i = ap odd (or_shr g h i) ∙ odd_or (g / 2 ^ i) (h / 2 ^ i)

pub of_or : (g h i : ℕ) → T (bit (bit_or g h) i) → T (bit g i) ⊎ T (bit h i)
of_or g h i t = or_split (bit g i) (bit h i) (subst T (bit_of_or g h i) t)

pub in_or : (g h i : ℕ) → T (bit g i) ⊎ T (bit h i) → T (bit (bit_or g h) i)
in_or g h i k = subst T (sym (bit_of_or g h i)) (⊎_elim (or_left (bit g i) (bit h i)) (or_right (bit g i) (bit h i)) k)

odd_and : (m n : ℕ) → odd (bit_and m n) ≡ (odd m && odd n)
odd_and m n =
    let step = and_step m n in
    same_test (odd (bit_and m n)) (odd m && odd n)
    (λ t.
    let e = eqb→eq (bit_and m n % 2) 1 t in
    let l : m % 2 ≡ 1 = omega arith in
    let r : n % 2 ≡ 1 = omega arith in
    and_pair (odd m) (odd n) (rw l tt) (rw r tt))
    (λ t.
    let both = and_split (odd m) (odd n) t in
    let l = eqb→eq (m % 2) 1 both.0 in
    let r = eqb→eq (n % 2) 1 both.1 in
    let e : bit_and m n % 2 ≡ 1 = omega arith in
    rw e tt)

pub bit_of_and : (g h i : ℕ) → bit (bit_and g h) i ≡ (bit g i && bit h i)
bit_of_and g h i = ap odd (and_shr g h i) ∙ odd_and (g / 2 ^ i) (h / 2 ^ i)

pub or_assoc : (g h k : ℕ) → bit_or (bit_or g h) k ≡ bit_or g (bit_or h k)
or_assoc g h k = same_bits (bit_or (bit_or g h) k) (bit_or g (bit_or h k)) to from
  where
    to : (i : ℕ) → T (bit (bit_or (bit_or g h) k) i) → T (bit (bit_or g (bit_or h k)) i)
    to i t =
        in_or g (bit_or h k) i
        (⊎_elim (λ l. ⊎_elim inl (λ r. inr (in_or h k i (inl r))) (of_or g h i l)) (λ r. inr (in_or h k i (inr r))) (of_or (bit_or g h) k i t))

    from : (i : ℕ) → T (bit (bit_or g (bit_or h k)) i) → T (bit (bit_or (bit_or g h) k) i)
    from i t =
        in_or (bit_or g h) k i
        (⊎_elim (λ l. inl (in_or g h i (inl l))) (λ r. ⊎_elim (λ l. inl (in_or g h i (inr l))) inr (of_or h k i r)) (of_or g (bit_or h k) i t))

-- ---- listed variables

pub alone_bits : (x i : ℕ) → T (bit (alone x) i) ↔ ((i ≡ x) × (i < widest))
alone_bits x i = step (ltb x widest) refl
  where
    step : (b : Bool) → ltb x widest ≡ b → T (bit (cond b (2 ^ x) 0) i) ↔ ((i ≡ x) × (i < widest))
    step true e = (
      λ t. let same = power_bit x i t in let l = ltb-true x widest e in (same, omega arith),
      λ k. subst (λ (j : ℕ). T (bit (2 ^ x) j)) (sym k.0) (bit_power x),
    )
    step false e = (λ t. absurd (zero_bits i t), λ k. let same = k.0 in let l = k.1 in let m = ltb-false x widest e in absurd (omega arith))

pub coded_bits : (xs : List ℕ) (i : ℕ) → T (bit (coded xs) i) ↔ (Listed i xs × (i < widest))
coded_bits [] i = (λ t. absurd (zero_bits i t), λ k. absurd k.0)
coded_bits (x ∷ xs) i =
    let here = alone_bits x i in
    let rest = coded_bits xs i in (
      λ t.
          ⊎_elim (λ l. let k = here.0 l in (inl k.0, k.1)) (λ r. let k = rest.0 r in (inr k.0, k.1))
          (of_or (alone x) (coded xs) i t),
      λ k. in_or (alone x) (coded xs) i (⊎_elim (λ e. inl (here.1 (e, k.1))) (λ l. inr (rest.1 (l, k.1))) k.0),
    )
