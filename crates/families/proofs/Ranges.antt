-- All variables below a bound: the bits of a mask there, and the mask of them all, cut down. Assumes nothing.
use Rattle.std.proofs.Common.{◌≡◌, ℕ, zero, suc, ◌/◌, ◌%◌, ◌^◌, ◌<◌, ◌≤◌, T, ◌↔◌, List, length, get_or, sym, ◌∙◌, subst, pow-suc, add-one, arith, pow_pos}
use native.Mathlib.Nat.{mod-one}
use lib.Bits.{bit_and}
use lib.Pow.{field, mod-mod-pow}
use Rattle.domain.specs.Variables.{Below}
use Rattle.domain.proofs.Booleans.{and_split, and_pair}
use Rattle.families.specs.Masks.{bit, whole, cut}
use Rattle.domain.proofs.Lists.{listed_at, each_below}
use Rattle.families.proofs.Masks.{bit_suc, odd_from_bit, bit_from_odd, zero_bits, one_mask, bit_of_and, bit_cut}

-- ---- the bits of a mask below n

pub bit_low : (n g i : ℕ) → T (bit (g % 2 ^ n) i) ↔ ((i < n) × T (bit g i))
bit_low zero g i =
    (λ t. absurd (zero_bits i (subst (λ (k : ℕ). T (bit k i)) (mod-one g) t)), λ h. absurd (let l = h.0 in omega arith))
bit_low (suc n) g zero =
    let e : g % 2 ^ suc n % 2 ≡ g % 2 = subst (λ (k : ℕ). g % 2 ^ k % 2 ≡ g % 2) (add-one n) (mod-mod-pow g n 1) in (
      λ t. (omega arith, bit_from_odd g (sym e ∙ odd_from_bit (g % 2 ^ suc n) t)),
      λ h. bit_from_odd (g % 2 ^ suc n) (e ∙ odd_from_bit g h.1),
    )
bit_low (suc n) g (suc i) =
    let e : g % 2 ^ suc n / 2 ≡ g / 2 % 2 ^ n = subst (λ (k : ℕ). g % 2 ^ k / 2 ≡ g / 2 % 2 ^ n) (add-one n) (field g n 1) in
    let rest = bit_low n (g / 2) i in (
      λ t. let (l, h) = rest.0 (rw (bit_suc, e) at t) in (omega arith, rw bit_suc h),
      λ h. let l = h.0 in rw (bit_suc, e) (rest.1 (omega arith, rw bit_suc at h.1)),
    )

-- ---- the mask of them all

pub bit_whole : (n i : ℕ) → T (bit (whole n) i) ↔ (i < n)
bit_whole zero i = (λ t. absurd (zero_bits i t), λ l. absurd (omega arith))
bit_whole (suc n) zero =
    (λ t. omega arith, λ l. bit_from_odd (whole (suc n)) (omega (arith, pow-suc 2 n, pow_pos n)))
bit_whole (suc n) (suc i) =
    let e : whole (suc n) / 2 ≡ whole n = omega (arith, pow-suc 2 n, pow_pos n) in
    let rest = bit_whole n i in
    (λ t. let l = rest.0 (rw (bit_suc, e) at t) in omega arith, λ l. rw (bit_suc, e) (rest.1 (omega arith)))

-- what a mask has in common with it
pub and_whole : (n g : ℕ) → bit_and g (whole n) ≡ g % 2 ^ n
and_whole n g = one_mask (λ i. (i < n) × T (bit g i)) (bit_and g (whole n)) (g % 2 ^ n) and_bits (bit_low n g)
  where
    and_bits : (i : ℕ) → T (bit (bit_and g (whole n)) i) ↔ ((i < n) × T (bit g i))
    and_bits i = (
      λ t. let (b, w) = and_split (bit g i) (bit (whole n) i) (subst T (bit_of_and g (whole n) i) t) in ((bit_whole n i).0 w, b),
      λ h. subst T (sym (bit_of_and g (whole n) i)) (and_pair (bit g i) (bit (whole n) i) h.1 ((bit_whole n i).1 h.0)),
    )

-- ---- cut down

cut_bits : (n : ℕ) (xs : List ℕ) → Below n xs → (i : ℕ) → T (bit (cut xs (whole n)) i) ↔ (i < length xs)
cut_bits n xs below i =
    let c = bit_cut xs (whole n) i in
    let x = get_or xs i 0 in
    (λ t. (c.0 t).0, λ l. c.1 (l, (bit_whole n x).1 (below x (listed_at xs i l))))

pub cut_whole : (n : ℕ) (xs : List ℕ) → Below n xs → cut xs (whole n) ≡ whole (length xs)
cut_whole n xs below = one_mask (λ i. i < length xs) (cut xs (whole n)) (whole (length xs)) (cut_bits n xs below) (bit_whole (length xs))

-- a cut that has all its places is one at variables below n, where the mask has no others
pub whole_cut : (n : ℕ) (xs : List ℕ) (g : ℕ) → ((i : ℕ) → T (bit g i) → i < n) → cut xs g ≡ whole (length xs) → Below n xs
whole_cut n xs g low e =
    each_below xs n (λ k l. low (get_or xs k 0) ((bit_cut xs g k).0 (subst (λ (m : ℕ). T (bit m k)) (sym e) ((bit_whole (length xs) k).1 l))).1)

pub low_whole : (n v : ℕ) → n ≤ v → whole v % 2 ^ n ≡ whole n
low_whole n v wide = one_mask (λ i. i < n) (whole v % 2 ^ n) (whole n) low_bits (bit_whole n)
  where
    low_bits : (i : ℕ) → T (bit (whole v % 2 ^ n) i) ↔ (i < n)
    low_bits i =
        let low = bit_low n (whole v) i in
        (λ t. (low.0 t).0, λ l. low.1 (l, (bit_whole v i).1 (omega arith)))
