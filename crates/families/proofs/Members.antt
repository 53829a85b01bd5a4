-- The list of the sets of a family: step by step, what is listed, and that it rises. Assumes nothing.
use Rattle.std.proofs.Common.{◌≡◌, ◌≢◌, ℕ, zero, suc, ◌+◌, ◌-◌, ◌*◌, ◌/◌, ◌%◌, ◌^◌, ◌<◌, ◌≤◌, Bool, true, false, cond, not, ◌&&◌, T, eqb, List, [], ◌∷◌, ◌++◌, length, get_or, sym, refl, ap, ap₂, ◌∙◌, subst, inl, inr, ⊎_elim, ◌⊎◌, append-nil, arith}
use lib.Bits.{bit_and}
use Rattle.std.specs.Int.{w64, bit_not, trailing_zeros}
use Rattle.std.specs.Iterator.{Yields, YieldsFirst}
use Rattle.std.proofs.lemmas.Bool.{cases_eq, cases_lt, eq-eqb, ne_eqb, lt-ltb, le-ltb}
use Rattle.std.proofs.lemmas.Nat.Bits.{bit_at-trailing_zeros, bit_at_clear_same, bit_at_clear_other}
use Rattle.domain.proofs.Booleans.{and_split, and_true, same_test}
use Rattle.domain.proofs.Lists.{listed_append, listed_left, listed_right}
use Rattle.domain.specs.Variables.{Listed}
use Rattle.families.specs.Masks.{bit}
use Rattle.families.specs.Members.{passing, left_has, sets_left, sets_of, ListsAll, Rising}
use Rattle.families.specs.Words.{word, word_count, holds, sets}
use Rattle.families.specs.declared.family.Family.{Family}
use Rattle.families.proofs.Masks.{zero_bits, bit_of_and, below_bits}
use Rattle.families.proofs.Words.{holds_low, holds_lies}

-- ---- what is listed, and in which order

passing_each : (n k : ℕ) (p : ℕ → Bool) (g : ℕ) → Listed g (passing n k p) → (k ≤ g) × (g < k + n) × T (p g)
unfolding passing
passing_each zero k p g l = elim l [ ]
passing_each (suc n) k p g l = step (p k) refl (passing_each n (k + 1) p g) l
  where
    step : (b : Bool) → p k ≡ b → (Listed g (passing n (k + 1) p) → (k + 1 ≤ g) × (g < k + 1 + n) × T (p g)) → Listed g (cond b (k ∷ passing n (k + 1) p) (passing n (k + 1) p)) → (k ≤ g) × (g < k + suc n) × T (p g)
    step true e rest (inl here) = (omega arith, omega arith, rw (here, e) tt)
    step true e rest (inr m) = let (a, b, t) = rest m in (omega arith, omega arith, t)
    step false e rest m = let (a, b, t) = rest m in (omega arith, omega arith, t)

each_passing : (n k : ℕ) (p : ℕ → Bool) (g : ℕ) → k ≤ g → g < k + n → T (p g) → Listed g (passing n k p)
unfolding passing
each_passing zero k p g low high t = absurd (omega arith)
each_passing (suc n) k p g low high t = step (p k) refl (each_passing n (k + 1) p g)
  where
    step : (b : Bool) → p k ≡ b → (k + 1 ≤ g → g < k + 1 + n → T (p g) → Listed g (passing n (k + 1) p)) → Listed g (cond b (k ∷ passing n (k + 1) p) (passing n (k + 1) p))
    step true e rest = ⊎_elim (λ here. inl here) (λ d. inr (rest (omega arith) (omega arith) t)) (cases_eq g k)
    step false e rest =
        ⊎_elim (λ here. let t' : T (p k) = subst (λ (j : ℕ). T (p j)) here t in absurd (subst (λ (b : Bool). T b) e t'))
        (λ d. rest (omega arith) (omega arith) t) (cases_eq g k)

passing_rises : (n k : ℕ) (p : ℕ → Bool) → Rising (passing n k p)
unfolding passing
passing_rises zero k p = tt
passing_rises (suc n) k p = step (p k) (passing_rises n (k + 1) p)
  where
    step : (b : Bool) → Rising (passing n (k + 1) p) → Rising (cond b (k ∷ passing n (k + 1) p) (passing n (k + 1) p))
    step true rest = (λ h l. let (a, b, t) = passing_each n (k + 1) p h l in omega arith, rest)
    step false rest = rest

passing_few : (n k : ℕ) (p : ℕ → Bool) → length (passing n k p) ≤ n
unfolding passing
passing_few zero k p = omega arith
passing_few (suc n) k p = step (p k) (passing_few n (k + 1) p)
  where
    step : (b : Bool) → length (passing n (k + 1) p) ≤ n → length (cond b (k ∷ passing n (k + 1) p) (passing n (k + 1) p)) ≤ suc n
    step true rest = omega arith
    step false rest = omega arith

pub sets_few : (f : Family) → length (sets_of f) ≤ sets
sets_few f = passing_few sets 0 (holds f)

pub sets_all : (f : Family) → ListsAll f (sets_of f)
sets_all f g = (
  λ l. (passing_each sets 0 (holds f) g l).2,
  λ t. let low = holds_low f g t in each_passing sets 0 (holds f) g (omega arith) (omega arith) t,
)

pub sets_rise : (f : Family) → Rising (sets_of f)
sets_rise f = passing_rises sets 0 (holds f)

-- ---- one step

passing_here : (n k : ℕ) (p : ℕ → Bool) → true ≡ p k → passing (suc n) k p ≡ k ∷ passing n (k + 1) p
unfolding passing
passing_here n k p e = ap (λ (b : Bool). cond b (k ∷ passing n (k + 1) p) (passing n (k + 1) p)) (sym e)

passing_gone : (n k : ℕ) (p : ℕ → Bool) → false ≡ p k → passing (suc n) k p ≡ passing n (k + 1) p
unfolding passing
passing_gone n k p e = ap (λ (b : Bool). cond b (k ∷ passing n (k + 1) p) (passing n (k + 1) p)) (sym e)

passing_none : (k : ℕ) (p : ℕ → Bool) → passing 0 k p ≡ []
unfolding passing
passing_none k p = refl

passing_alike : (n k : ℕ) (p q : ℕ → Bool) → ((g : ℕ) → k ≤ g → g < k + n → p g ≡ q g) → passing n k p ≡ passing n k q
unfolding passing
passing_alike zero k p q same = refl
passing_alike (suc n) k p q same =
    ap₂ (λ (b : Bool) (gs : List ℕ). cond b (k ∷ gs) gs) (same k (omega arith) (omega arith))
    (passing_alike n (k + 1) p q (λ g low high. same g (omega arith) (omega arith)))

passing_skip : (d n k : ℕ) (p : ℕ → Bool) → ((g : ℕ) → k ≤ g → g < k + d → p g ≡ false) → passing (d + n) k p ≡ passing n (k + d) p
passing_skip zero n k p none =
    let e : zero + n ≡ n = omega arith in
    let f : k ≡ k + zero = omega arith in
    ap₂ (λ (m j : ℕ). passing m j p) e f
passing_skip (suc d) n k p none =
    let e : suc d + n ≡ suc (d + n) = omega arith in
    let f : k + 1 + d ≡ k + suc d = omega arith in
    ap (λ (m : ℕ). passing m k p) e
    ∙ passing_gone (d + n) k p (sym (none k (omega arith) (omega arith)))
    ∙ passing_skip d n (k + 1) p (λ g low high. none g (omega arith) (omega arith))
    ∙ ap (λ (j : ℕ). passing n j p) f

-- ---- the bits of a word

-- with one bit taken out, a word has its other bits
bit_goes : (t n : ℕ) → t < word → n < 2 ^ word → (i : ℕ) → bit (bit_and n (bit_not w64 (1 * 2 ^ t % 2 ^ word))) i ≡ (bit n i && not (eqb i t))
bit_goes t n low fits i = ⊎_elim here (λ other. ⊎_elim (there other) past (cases_lt i word)) (cases_eq i t)
  where
    out : ℕ
    out = bit_and n (bit_not w64 (1 * 2 ^ t % 2 ^ word))

    here : i ≡ t → bit out i ≡ (bit n i && not (eqb i t))
    here e =
        ap (bit out) e ∙ ap (λ (d : ℕ). eqb d 1) (bit_at_clear_same w64 n t low)
        ∙ sym
        (same_test (bit n i && not (eqb i t)) false (λ u. subst T (ap not (eq-eqb i t e)) (and_split (bit n i) (not (eqb i t)) u).1) (λ u. absurd u))

    there : (i ≡ t → ⊥) → i < word → bit out i ≡ (bit n i && not (eqb i t))
    there other l =
        ap (λ (d : ℕ). eqb d 1) (bit_at_clear_other w64 n t low i l other)
        ∙ and_true (bit n i) (not (eqb i t)) (ap not (ne_eqb i t other))

    past : word ≤ i → bit out i ≡ (bit n i && not (eqb i t))
    past l =
        let rest : ℕ = bit_not w64 (1 * 2 ^ t % 2 ^ word) in
        same_test (bit out i) (bit n i && not (eqb i t))
        (λ u. absurd (below_bits word n i fits l (and_split (bit n i) (bit rest i) (subst T (bit_of_and n rest i) u)).0))
        (λ u. absurd (below_bits word n i fits l (and_split (bit n i) (not (eqb i t)) u).0))

-- ---- what is left

module _ (f : Family) (k left g : ℕ) where
  left_here : g < word * (k + 1) → left_has k left f g ≡ bit left (g % word)
  left_here low = ap (λ (b : Bool). cond b (bit left (g % word)) (holds f g)) (lt-ltb g (word * (k + 1)) low)

  left_later : word * (k + 1) ≤ g → left_has k left f g ≡ holds f g
  left_later past = ap (λ (b : Bool). cond b (bit left (g % word)) (holds f g)) (le-ltb g (word * (k + 1)) past)

-- from the word k on a whole family is left
word_here : (f : Family) (k g : ℕ) → word * k ≤ g → g < sets → holds f g ≡ left_has k (get_or f.words k 0) f g
word_here f k g past low =
    ⊎_elim (λ here. let place : g / word ≡ k = omega arith in
    holds_lies f g low ∙ ap (λ (j : ℕ). bit (get_or f.words j 0) (g % word)) place ∙ sym (left_here f k (get_or f.words k 0) g here))
    (λ later. sym (left_later f k (get_or f.words k 0) g later)) (cases_lt g (word * (k + 1)))

module _ (f : Family) (k left : ℕ) (within : k < word_count) where
  -- the lowest bit that is left is the next set
  pub next_set : left ≢ 0 → left < 2 ^ word → sets_left k left f ≡ (word * k + trailing_zeros w64 left) ∷ sets_left k (bit_and left (bit_not w64 (1 * 2 ^ trailing_zeros w64 left % 2 ^ word))) f
  next_set some fits =
      let lowest = bit_at-trailing_zeros w64 left (omega arith) fits in
      let low : t < 64 = lowest.0 in
      let here : T (bit left t) = subst (λ (d : ℕ). T (eqb d 1)) (sym lowest.1) tt in
      let below : (j : ℕ) → j < t → bit left j ≡ false = λ j l. ap (λ (d : ℕ). eqb d 1) (lowest.2 j l) in
      let n : ℕ = sets - word * k - (t + 1) in
      let whole : sets - word * k ≡ t + suc n = omega arith in
      let rest : sets - word * k ≡ t + 1 + n = omega arith in
      let next : ℕ = bit_and left (bit_not w64 (1 * 2 ^ t % 2 ^ word)) in
      let gone = bit_goes t left low fits in
      let none : (g : ℕ) → word * k ≤ g → g < word * k + t → left_has k left f g ≡ false =
      λ g past high. let place : g % word < t = omega arith in left_here f k left g (omega arith) ∙ below (g % word) place in
      let one : true ≡ left_has k left f (word * k + t) =
      let place : t ≡ (word * k + t) % word = omega arith in
      sym (left_here f k left (word * k + t) (omega arith) ∙ ap (bit left) (sym place) ∙ same_test (bit left t) true (λ u. tt) (λ u. here)) in
      let fewer : (g : ℕ) → word * k ≤ g → g < word * k + (t + 1) → left_has k next f g ≡ false =
      λ g past high. let place : g % word ≤ t = omega arith in left_here f k next g (omega arith) ∙ gone (g % word) ∙ lowered below (g % word) place in
      let alike : (g : ℕ) → word * k + t + 1 ≤ g → g < word * k + t + 1 + n → left_has k left f g ≡ left_has k next f g =
      λ g past high. ⊎_elim
      (λ low. let place : g % word ≡ t → ⊥ = λ e. omega arith in
      left_here f k left g low ∙ kept (g % word) place ∙ sym (left_here f k next g low ∙ gone (g % word)))
      (λ later. left_later f k left g later ∙ sym (left_later f k next g later)) (cases_lt g (word * (k + 1))) in
      let up : word * k + t + 1 ≡ word * k + (t + 1) = omega arith in
      ap (λ (m : ℕ). passing m (word * k) (left_has k left f)) whole
      ∙ passing_skip t (suc n) (word * k) (left_has k left f) none
      ∙ passing_here n (word * k + t) (left_has k left f) one
      ∙ ap (λ (gs : List ℕ). (word * k + t) ∷ gs) (
      passing_alike n (word * k + t + 1) (left_has k left f) (left_has k next f) alike
      ∙ ap (λ (j : ℕ). passing n j (left_has k next f)) up
      ∙ sym (ap (λ (m : ℕ). passing m (word * k) (left_has k next f)) rest ∙ passing_skip (t + 1) n (word * k) (left_has k next f) fewer)
      )
    where
      t : ℕ
      t = trailing_zeros w64 left

      lowered : ((j : ℕ) → j < t → bit left j ≡ false) → (i : ℕ) → i ≤ t → (bit left i && not (eqb i t)) ≡ false
      lowered below i l =
          ⊎_elim (λ e. same_test (bit left i && not (eqb i t)) false (λ u. subst T (ap not (eq-eqb i t e)) (and_split (bit left i) (not (eqb i t)) u).1) (λ u. absurd u))
          (λ other. ap (λ (b : Bool). b && not (eqb i t)) (below i (omega arith))) (cases_eq i t)

      kept : (i : ℕ) → (i ≡ t → ⊥) → bit left i ≡ (bit left i && not (eqb i t))
      kept i other = and_true (bit left i) (not (eqb i t)) (ap not (ne_eqb i t other))

  -- where none is left the next word follows
  pub next_word : left ≡ 0 → sets_left k left f ≡ sets_left (k + 1) (get_or f.words (k + 1) 0) f
  next_word none =
      let n : ℕ = sets - word * (k + 1) in
      let whole : sets - word * k ≡ word + n = omega arith in
      let up : word * k + word ≡ word * (k + 1) = omega arith in
      let next : ℕ = get_or f.words (k + 1) 0 in
      ap (λ (m : ℕ). passing m (word * k) (left_has k left f)) whole
      ∙ passing_skip word n (word * k) (left_has k left f)
      (λ g past high. left_here f k left g (omega arith) ∙ ap (λ (m : ℕ). bit m (g % word)) none ∙ same_test (bit 0 (g % word)) false (zero_bits (g % word)) (λ u. absurd u))
      ∙ ap (λ (j : ℕ). passing n j (left_has k left f)) up
      ∙ passing_alike n (word * (k + 1)) (left_has k left f) (left_has (k + 1) next f)
      (λ g past high. left_later f k left g past ∙ word_here f (k + 1) g past (omega arith))

module _ (f : Family) (left : ℕ) (whole : left ≡ get_or f.words 0 0) where
  pub first_word : sets_left 0 left f ≡ sets_of f
  first_word =
      ap (λ (w : ℕ). sets_left 0 w f) whole
      ∙ sym (passing_alike sets 0 (holds f) (left_has 0 (get_or f.words 0 0) f) (λ g low high. word_here f 0 g (omega arith) (omega arith)))

  pub first_all : ListsAll f (sets_left 0 left f)
  first_all = subst (ListsAll f) (sym first_word) (sets_all f)

  pub first_rise : Rising (sets_left 0 left f)
  first_rise = subst Rising (sym first_word) (sets_rise f)

pub last_word : (f : Family) (k left : ℕ) → word_count ≤ k → sets_left k left f ≡ []
last_word f k left past =
    let s : sets - word * k ≡ 0 = omega arith in
    ap (λ (n : ℕ). passing n (word * k) (left_has k left f)) s ∙ passing_none (word * k) (left_has k left f)

-- ---- what came of it, and what is left

module _ (gs : List ℕ) (g h : ℕ) where
  pub listed_one_more : Listed h (gs ++ g ∷ []) → Listed h gs ⊎ (h ≡ g)
  listed_one_more l = ⊎_elim inl (λ r. inr (⊎_elim (λ e. e) (λ n. absurd n) r)) (listed_append h gs (g ∷ []) l)

  pub listed_before : Listed h gs → Listed h (gs ++ g ∷ [])
  listed_before l = listed_left h gs (g ∷ []) l

  pub listed_last : h ≡ g → Listed h (gs ++ g ∷ [])
  listed_last e = listed_right h gs (g ∷ []) (inl e)

came_left : (all gs left : List ℕ) → Yields (YieldsFirst (λ (hs : List ℕ). hs)) all gs left → all ≡ gs ++ left
came_left all [] left e = e
came_left all (g ∷ gs) left run = run.1 ∙ ap (λ (hs : List ℕ). g ∷ hs) (came_left run.0 gs left run.2)

module _ (f : Family) (all gs left : List ℕ) (each : ListsAll f all) (run : Yields (YieldsFirst (λ (hs : List ℕ). hs)) all gs left) where
  -- the next is one of the family
  pub came_next : (g : ℕ) (rest : List ℕ) → left ≡ g ∷ rest → T (holds f g)
  came_next g rest e =
      (each g).0 (subst (Listed g) (sym (came_left all gs left run)) (listed_right g gs left (subst (Listed g) (sym e) (inl refl))))

  -- all are those that came, the next and those after it
  pub came_here : (g : ℕ) (rest : List ℕ) → left ≡ g ∷ rest → all ≡ gs ++ g ∷ rest
  came_here g rest e = came_left all gs left run ∙ ap (λ (hs : List ℕ). gs ++ hs) e

  -- at the end they all came
  pub came_whole : left ≡ [] → all ≡ gs
  came_whole e = came_left all gs left run ∙ ap (λ (hs : List ℕ). gs ++ hs) e ∙ append-nil gs

  pub came_all : left ≡ [] → ListsAll f gs
  came_all e = subst (ListsAll f) (came_whole e) each
