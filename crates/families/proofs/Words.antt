-- What lies in words, word by word: the laws of `lies` that the code over words stands on. Over any number of words.
-- Assumes nothing.
use Rattle.std.proofs.Common.{◌≡◌, ℕ, zero, suc, ◌+◌, ◌*◌, ◌/◌, ◌%◌, ◌^◌, ◌<◌, ◌≤◌, Bool, false, ◌&&◌, ◌||◌, T, eqb, ltb, List, length, get_or, set, sym, ap, ◌∙◌, subst, ap₂, ⊎_elim, arith, eqb→eq, ltb→lt, lt→ltb, get_or-set_other, get_or-set_same}
use Rattle.std.specs.Array.{IsFromFnResult, IsFromFnResultFrom}
use Rattle.std.specs.Fn.{Called}
use denote.Param.Members.{Mut}
use lib.Bits.{bit_or}
use lib.Count.{ones}
use lib.Dec.{eqb_refl}
use Rattle.std.proofs.lemmas.Nat.{one_shl}
use Rattle.std.proofs.lemmas.Bool.{cases_eq, cases_lt, ne_eqb}
use Rattle.families.specs.Masks.{bit, count}
use Rattle.families.specs.declared.family.Family.{Family}
use Rattle.families.specs.Words.{word, sets, lies, holds}
use Rattle.families.proofs.Counts.{count_zero, count_alike, count_more, ones_count}
use Rattle.domain.proofs.Booleans.{and_split, and_pair, or_split, or_left, or_right, or_false, same_test}
use Rattle.families.proofs.Masks.{same_bits, below_bits, bit_of_or, bit_power, power_bit}

-- ---- one word

pub high_bit : (n g i : ℕ) → g < 2 ^ n → n ≤ i → bit g i ≡ false
high_bit n g i below high = same_test (bit g i) false (below_bits n g i below high) (λ t. absurd t)

pub power_test : (j i : ℕ) → bit (2 ^ j) i ≡ eqb i j
power_test j i =
    same_test (bit (2 ^ j) i) (eqb i j) (λ t. subst (λ (k : ℕ). T (eqb i k)) (power_bit j i t) (eqb_refl i))
    (λ t. subst (λ (k : ℕ). T (bit (2 ^ j) k)) (sym (eqb→eq i j t)) (bit_power j))

-- ---- in words

-- at bit i of word k
pub lies_at : (ws : List ℕ) (k i : ℕ) → i < word → lies ws (word * k + i) ≡ bit (get_or ws k 0) i
lies_at ws k i low =
    let e : (word * k + i) / word ≡ k = omega arith in
    let f : (word * k + i) % word ≡ i = omega arith in
    ap₂ (λ (a b : ℕ). bit (get_or ws a 0) b) e f

-- ---- a family, by its words

pub holds_low : (f : Family) (g : ℕ) → T (holds f g) → g < sets
holds_low f g t = ltb→lt g sets (and_split (ltb g sets) (lies f.words g) t).0

pub holds_lies : (f : Family) (g : ℕ) → g < sets → holds f g ≡ lies f.words g
holds_lies f g low =
    same_test (ltb g sets && lies f.words g) (lies f.words g) (λ t. (and_split (ltb g sets) (lies f.words g) t).1)
    (and_pair (ltb g sets) (lies f.words g) (lt→ltb g sets low))

pub holds_past : (f : Family) (g : ℕ) → sets ≤ g → holds f g ≡ false
holds_past f g past = same_test (holds f g) false (λ t. let l = holds_low f g t in omega arith) (λ t. absurd t)

-- what lies in its words is all that a family has
pub by_words : (f : Family) (a : ℕ → Bool) → ((g : ℕ) → g < sets → lies f.words g ≡ a g) → ((g : ℕ) → sets ≤ g → a g ≡ false) → (g : ℕ) → holds f g ≡ a g
by_words f a low past g =
    ⊎_elim (λ l. holds_lies f g l ∙ low g l) (λ l. holds_past f g l ∙ sym (past g l)) (cases_lt g sets)

-- ---- one more

module _ (ws : List ℕ) (g : ℕ) (there : g / word < length ws) where
  abbrev put : List ℕ
  put = set ws (g / word) (bit_or (get_or ws (g / word) 0) (1 * 2 ^ (g % word) % 2 ^ word))

  same_word : (h : ℕ) → h / word ≡ g / word → lies put h ≡ (lies ws h || eqb h g)
  same_word h e =
      let w = get_or ws (g / word) 0 in
      let low : g % word < word = omega arith in
      let one : get_or put (h / word) 0 ≡ bit_or w (2 ^ (g % word)) =
      ap (λ (k : ℕ). get_or put k 0) e ∙ get_or-set_same ws (g / word) _ 0 there ∙ ap (bit_or w) (one_shl (g % word) word low) in
      let same : eqb (h % word) (g % word) ≡ eqb h g =
      same_test (eqb (h % word) (g % word)) (eqb h g)
      (λ t. let m = eqb→eq (h % word) (g % word) t in let n : h ≡ g = omega arith in subst (λ (k : ℕ). T (eqb h k)) n (eqb_refl h))
      (λ t. subst (λ (k : ℕ). T (eqb (h % word) (k % word))) (eqb→eq h g t) (eqb_refl (h % word))) in
      ap (λ (v : ℕ). bit v (h % word)) one
      ∙ bit_of_or w (2 ^ (g % word)) (h % word)
      ∙ ap₂ (λ (b c : Bool). b || c) (ap (λ (k : ℕ). bit (get_or ws k 0) (h % word)) (sym e)) (power_test (g % word) (h % word) ∙ same)

  other_word : (h : ℕ) → (h / word ≡ g / word → ⊥) → lies put h ≡ (lies ws h || eqb h g)
  other_word h n =
      let apart : eqb h g ≡ false = ne_eqb h g (λ e. n (ap (λ (k : ℕ). k / word) e)) in
      let kept = get_or-set_other ws (g / word) (h / word) (bit_or (get_or ws (g / word) 0) (1 * 2 ^ (g % word) % 2 ^ word)) 0 n in
      ap (λ (v : ℕ). bit v (h % word)) kept ∙ or_false (bit (get_or ws (h / word) 0) (h % word)) (eqb h g) apart

  pub lies_put : (h : ℕ) → lies put h ≡ (lies ws h || eqb h g)
  lies_put h = ⊎_elim (same_word h) (other_word h) (cases_eq (h / word) (g / word))

-- ---- union and inclusion, word by word

pub lies_or : (us vs ws : List ℕ) (g : ℕ) → get_or ws (g / word) 0 ≡ bit_or (get_or us (g / word) 0) (get_or vs (g / word) 0) → lies ws g ≡ (lies us g || lies vs g)
lies_or us vs ws g here =
    ap (λ (w : ℕ). bit w (g % word)) here ∙ bit_of_or (get_or us (g / word) 0) (get_or vs (g / word) 0) (g % word)

pub or_within : (us vs : List ℕ) (g : ℕ) → bit_or (get_or us (g / word) 0) (get_or vs (g / word) 0) ≡ get_or vs (g / word) 0 → T (lies us g) → T (lies vs g)
or_within us vs g here t = subst T (sym (lies_or us vs vs g (sym here))) (or_left (lies us g) (lies vs g) t)

pub within_or : (us vs : List ℕ) (k : ℕ) → get_or us k 0 < 2 ^ word → ((i : ℕ) → i < word → T (lies us (word * k + i)) → T (lies vs (word * k + i))) → bit_or (get_or us k 0) (get_or vs k 0) ≡ get_or vs k 0
within_or us vs k fits each = same_bits (bit_or a b) b to from
  where
    a : ℕ
    a = get_or us k 0

    b : ℕ
    b = get_or vs k 0

    carried : (i : ℕ) → i < word → T (bit a i) → T (bit b i)
    carried i low t = subst T (lies_at vs k i low) (each i low (subst T (sym (lies_at us k i low)) t))

    to : (i : ℕ) → T (bit (bit_or a b) i) → T (bit b i)
    to i t =
        ⊎_elim (λ l. ⊎_elim (λ low. carried i low l) (λ high. absurd (below_bits word a i fits high l)) (cases_lt i word)) (λ r. r)
        (or_split (bit a i) (bit b i) (subst T (bit_of_or a b i) t))

    from : (i : ℕ) → T (bit b i) → T (bit (bit_or a b) i)
    from i t = subst T (sym (bit_of_or a b i)) (or_right (bit a i) (bit b i) t)

-- ---- an array made by a call at each place

module _ {F : Type 0} (g : Mut F (ℕ × Unit {0}) ℕ) (f : F) (P : ℕ → ℕ → Type 0) (ys : List ℕ)
    (each : (i y : ℕ) (q : F) → Called g f (i, tt) y q → (q ≡ f) × P i y) where
  made_from : (i n : ℕ) → IsFromFnResultFrom g f ys i n → (k : ℕ) → i ≤ k → k < i + n → P k (get_or ys k 0)
  made_from i zero all k low high = absurd (omega arith)
  made_from i (suc n) all k low high =
      let (q, y, here, called, rest) = all in
      let (same, held) = each i y q called in
      ⊎_elim (λ e. subst (λ (j : ℕ). P j (get_or ys j 0)) (sym e) (subst (P i) (sym (here.1 0)) held))
      (λ d. made_from (i + 1) n (subst (λ (p : F). IsFromFnResultFrom g p ys (i + 1) n) same rest) k (omega arith) (omega arith))
      (cases_eq k i)

-- what every call gives, the array has at each place
pub from_fn_at : {F : Type 0} {g : Mut F (ℕ × Unit {0}) ℕ} {f : F} {ys : List ℕ} {n : ℕ} → IsFromFnResult g f ys n → (P : ℕ → ℕ → Type 0) → ((i y : ℕ) (q : F) → Called g f (i, tt) y q → (q ≡ f) × P i y) → (k : ℕ) → k < n → P k (get_or ys k 0)
from_fn_at {F} {g} {f} {ys} {n} made P each k low = made_from g f P ys each 0 n made.each k (omega arith) (omega arith)

-- ---- counting, word by word

-- what lies in the first k words, counted
abbrev pub count_words : ℕ → List ℕ → ℕ
count_words zero ws = 0
count_words (suc k) ws = count_words k ws + count word (λ i. lies ws (word * k + i))

pub count_words_is : (k : ℕ) (ws : List ℕ) → count_words k ws ≡ count (word * k) (lies ws)
count_words_is zero ws = sym (count_zero (lies ws))
count_words_is (suc k) ws =
    let e : word * suc k ≡ word * k + word = omega arith in
    let last : ℕ = count word (λ i. lies ws (word * k + i)) in
    ap (λ (m : ℕ). m + last) (count_words_is k ws) ∙ sym (count_more (word * k) word (lies ws))
    ∙ ap (λ (n : ℕ). count n (lies ws)) (sym e)

pub count_word : (ws : List ℕ) (k : ℕ) → get_or ws k 0 < 2 ^ word → count (word * (k + 1)) (lies ws) ≡ count (word * k) (lies ws) + ones (get_or ws k 0)
count_word ws k fits =
    let e : word * (k + 1) ≡ word * k + word = omega arith in
    let split = ap (λ (n : ℕ). count n (lies ws)) e ∙ count_more (word * k) word (lies ws) in
    let at : count word (λ i. lies ws (word * k + i)) ≡ count word (bit (get_or ws k 0)) =
    count_alike word (λ i. lies ws (word * k + i)) (bit (get_or ws k 0)) (lies_at ws k) in
    let all = ones_count word (get_or ws k 0) fits in
    omega arith
