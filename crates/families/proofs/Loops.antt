-- One turn of each loop over sets and variables: what a turn adds to what the turns before it made. Assumes nothing.
use Rattle.std.proofs.Common.{cond, [], ◌∷◌, ◌++◌, refl, true, false, ◌⊎◌, inl, inr, ◌≡◌, ℕ, ◌+◌, ◌^◌, ◌<◌, ◌≤◌, Bool, ◌&&◌, ◌||◌, T, eqb, ltb, ◌↔◌, List, length, get_or, take, sym, ap, ◌∙◌, subst, ⊎_elim, append-nil, arith, eqb→eq, lt→ltb, get_or-take}
use lib.Bits.{bit_or}
use Rattle.std.specs.List.{filter, fold}
use lib.Dec.{eqb_refl}
use Rattle.std.proofs.lemmas.List.{length-take}
use Rattle.std.proofs.lemmas.List.Elements.{filter-append}
use Rattle.std.proofs.lemmas.Nat.{le_or_l}
use Rattle.std.proofs.lemmas.Bool.{cases_eq, ne_eqb}
use Rattle.domain.specs.Variables.{Listed}
use Rattle.families.specs.Masks.{bit, cut}
use Rattle.families.specs.Unions.{Selection, Inside, together}
use Rattle.families.specs.Families.{inner_union}
use Rattle.families.specs.Members.{sets_of, Rising}
use Rattle.families.specs.declared.family.Family.{Family}
use Rattle.families.specs.Words.{sets, holds}
use Rattle.domain.proofs.Booleans.{and_split, and_pair, or_split, or_left, or_right, same_test}
use Rattle.families.proofs.Members.{sets_all, listed_one_more, listed_before, listed_last}
use Rattle.families.proofs.Masks.{same_bits, bit_of_or, bit_cut, bit_power, power_bit}
use Rattle.families.proofs.Unions.{together_one, one_together, fold_together}

-- ---- one set more in a family

module _ (before after : ℕ → Bool) (g : ℕ) (low : g < sets) (made : (h : ℕ) → after h ≡ (before h || (eqb h g && ltb g sets))) where
  added_either : (h : ℕ) → T (after h) → T (before h) ⊎ (h ≡ g)
  added_either h t =
      ⊎_elim inl (λ new. inr (eqb→eq h g (and_split (eqb h g) (ltb g sets) new).0))
      (or_split (before h) (eqb h g && ltb g sets) (subst T (made h) t))

  added_old : (h : ℕ) → T (before h) → T (after h)
  added_old h t = subst T (sym (made h)) (or_left (before h) (eqb h g && ltb g sets) t)

  added_new : (h : ℕ) → h ≡ g → T (after h)
  added_new h e =
      subst T (sym (made h))
      (or_right (before h) (eqb h g && ltb g sets)
      (and_pair (eqb h g) (ltb g sets) (subst (λ (j : ℕ). T (eqb h j)) e (eqb_refl h)) (lt→ltb g sets low)))

-- ---- those of the sets so far that pass a test

-- an answer of yes, or else the other
says_as : (Says : Bool → Type 0) (b : Bool) → (T b → Says true) → Says false → Says b
says_as Says true passed failed = passed tt
says_as Says false passed failed = failed

-- `Says h b` where b may be the test's answer at h
module _ (Says : ℕ → Bool → Type 0) (gs : List ℕ) (g : ℕ) (before : ℕ → Bool)
    (had : (h : ℕ) → T (before h) → Listed h gs × Says h true) (said : (h : ℕ) → Listed h gs → Says h (before h)) where
  abbrev More : (ℕ → Bool) → Type 0
  More after = ((h : ℕ) → T (after h) → Listed h (gs ++ g ∷ []) × Says h true) × ((h : ℕ) → Listed h (gs ++ g ∷ []) → Says h (after h))

  pub pass_in : (after : ℕ → Bool) → g < sets → Says g true → ((h : ℕ) → after h ≡ (before h || (eqb h g && ltb g sets))) → More after
  pass_in after low pass made = (has, says)
    where
      has : (h : ℕ) → T (after h) → Listed h (gs ++ g ∷ []) × Says h true
      has h t =
          ⊎_elim (λ b. let k = had h b in (listed_before gs g h k.0, k.1))
          (λ e. (listed_last gs g h e, subst (λ (j : ℕ). Says j true) (sym e) pass)) (added_either before after g low made h t)

      same : (h : ℕ) → (h ≡ g → ⊥) → before h ≡ after h
      same h other =
          same_test (before h) (after h) (added_old before after g low made h)
          (λ t. ⊎_elim (λ b. b) (λ e. absurd (other e)) (added_either before after g low made h t))

      says : (h : ℕ) → Listed h (gs ++ g ∷ []) → Says h (after h)
      says h l =
          ⊎_elim
          (λ e. subst (Says h) (sym (same_test (after h) true (λ t. tt) (λ t. added_new before after g low made h e))) (subst (λ (j : ℕ). Says j true) (sym e) pass))
          (λ other. subst (Says h) (same h other) (said h (⊎_elim (λ m. m) (λ e. absurd (other e)) (listed_one_more gs g h l))))
          (cases_eq h g)

  pub pass_out : Says g false → More before
  pass_out fail = (λ h t. let k = had h t in (listed_before gs g h k.0, k.1), says)
    where
      says : (h : ℕ) → Listed h (gs ++ g ∷ []) → Says h (before h)
      says h l =
          ⊎_elim (said h) (λ e. says_as (Says h) (before h) (λ t. (had h t).1) (subst (λ (j : ℕ). Says j false) (sym e) fail))
          (listed_one_more gs g h l)

-- ---- the cuts of the sets so far

-- h is the image of one of them
abbrev Image : (ℕ → ℕ) → List ℕ → ℕ → Type 0
Image f gs h = (g : ℕ) × Listed g gs × (h ≡ f g)

pub image_in : (f : ℕ → ℕ) (gs : List ℕ) (n : ℕ) (before after : ℕ → Bool) → ((h : ℕ) → T (before h) ↔ Image f gs h) → f n < sets → ((h : ℕ) → after h ≡ (before h || (eqb h (f n) && ltb (f n) sets))) → (h : ℕ) → T (after h) ↔ Image f (gs ++ n ∷ []) h
image_in f gs n before after so_far low made h = (
  λ t.
      ⊎_elim (λ b. let (g, l, e) = (so_far h).0 b in (g, listed_before gs n g l, e)) (λ e. (n, listed_last gs n n refl, e))
      (added_either before after (f n) low made h t),
  λ k.
      let (g, l, e) = k in
      ⊎_elim (λ m. added_old before after (f n) low made h ((so_far h).1 (g, m, e)))
      (λ same. added_new before after (f n) low made h (e ∙ ap f same)) (listed_one_more gs n g l),
)

-- h is inside where its union with g is h itself
pub or_inside : (g h : ℕ) → bit_or g h ≡ h → Inside g h
or_inside g h e i t = subst (λ (k : ℕ). T (bit k i)) e (subst T (sym (bit_of_or g h i)) (or_left (bit g i) (bit h i) t))

pub inside_or : (g h : ℕ) → Inside g h → bit_or g h ≡ h
inside_or g h inner =
    same_bits (bit_or g h) h (λ i t. ⊎_elim (inner i) (λ r. r) (or_split (bit g i) (bit h i) (subst T (bit_of_or g h i) t)))
    (λ i t. subst T (sym (bit_of_or g h i)) (or_right (bit g i) (bit h i) t))

-- ---- a set is a union of some just where it is the union of all that lie within it

filtered_in : (t : ℕ → Bool) (gs : List ℕ) (g : ℕ) → Listed g (filter t gs) → Listed g gs × T (t g)
filtered_in t [] g l = elim l [ ]
filtered_in t (k ∷ gs) g l = step (t k) refl (filtered_in t gs g) l
  where
    step : (b : Bool) → t k ≡ b → (Listed g (filter t gs) → Listed g gs × T (t g)) → Listed g (cond b (k ∷ filter t gs) (filter t gs)) → Listed g (k ∷ gs) × T (t g)
    step true e rest (inl here) = (inl here, rw (here, e) tt)
    step true e rest (inr m) = let (l, p) = rest m in (inr l, p)
    step false e rest m = let (l, p) = rest m in (inr l, p)

in_filtered : (t : ℕ → Bool) (gs : List ℕ) (g : ℕ) → Listed g gs → T (t g) → Listed g (filter t gs)
in_filtered t [] g l p = elim l [ ]
in_filtered t (k ∷ gs) g l p = step (t k) refl (in_filtered t gs g) l
  where
    step : (b : Bool) → t k ≡ b → (Listed g gs → T (t g) → Listed g (filter t gs)) → Listed g (k ∷ gs) → Listed g (cond b (k ∷ filter t gs) (filter t gs))
    step true e rest (inl here) = inl here
    step true e rest (inr m) = inr (rest m p)
    step false e rest (inl here) = let p' : T (t k) = subst (λ (j : ℕ). T (t j)) here p in absurd (subst T e p')
    step false e rest (inr m) = rest m p

-- the union of those listed that lie within h
abbrev pub inner_of : ℕ → List ℕ → ℕ
inner_of h gs = fold bit_or 0 (filter (λ g. eqb (bit_or g h) h) gs)

rising_right : (gs ks : List ℕ) → Rising (gs ++ ks) → Rising ks
rising_right [] ks r = r
rising_right (g ∷ gs) ks r = rising_right gs ks r.1

filter_none : (p : ℕ → Bool) (gs : List ℕ) → ((g : ℕ) → Listed g gs → p g ≡ false) → filter p gs ≡ []
filter_none p [] none = refl
filter_none p (g ∷ gs) none =
    ap (λ (b : Bool). cond b (g ∷ filter p gs) (filter p gs)) (none g (inl refl)) ∙ filter_none p gs (λ k l. none k (inr l))

-- none that comes after h lies within h
pub inner_stop : (h : ℕ) (gs : List ℕ) (g : ℕ) (rest : List ℕ) → Rising (gs ++ g ∷ rest) → h < g → inner_of h (gs ++ g ∷ rest) ≡ inner_of h gs
inner_stop h gs g rest rising past =
    let p : ℕ → Bool = λ k. eqb (bit_or k h) h in
    let order = rising_right gs (g ∷ rest) rising in
    let above : (k : ℕ) → Listed k (g ∷ rest) → h < k = λ k l. ⊎_elim (λ e. omega arith) (λ m. let n = order.0 k m in omega arith) l in
    let none : (k : ℕ) → Listed k (g ∷ rest) → p k ≡ false =
    λ k l. ne_eqb (bit_or k h) h (λ e. let a = above k l in let b = le_or_l k h in omega arith) in
    ap (fold bit_or 0)
    (filter-append p gs (g ∷ rest) ∙ ap (λ (ks : List ℕ). filter p gs ++ ks) (filter_none p (g ∷ rest) none) ∙ append-nil (filter p gs))

module _ (f : Family) (h : ℕ) where
  abbrev inner : List ℕ
  inner = filter (λ g. eqb (bit_or g h) h) (sets_of f)

  pub whole_selection : inner_union f h ≡ h → Selection (λ g. T (holds f g)) h
  whole_selection e = record { sets = inner; each = λ g l. (sets_all f g).0 (filtered_in _ (sets_of f) g l).0; whole = sym (fold_together inner) ∙ e }

  pub selection_whole : Selection (λ g. T (holds f g)) h → inner_union f h ≡ h
  selection_whole s =
      fold_together inner
      ∙ same_bits (together inner) h
      (λ i t.
      let (g, l, b) = together_one inner i t in
      or_inside g h (eqb→eq (bit_or g h) h (filtered_in _ (sets_of f) g l).1) i b)
      (λ i t.
      let (g, l, b) = together_one s.sets i (subst (λ (j : ℕ). T (bit j i)) (sym s.whole) t) in
      let part : bit_or g h ≡ h = inside_or g h (λ j o. subst (λ (k : ℕ). T (bit k j)) s.whole (one_together s.sets g j l o)) in
      one_together inner g i
      (in_filtered _ (sets_of f) g ((sets_all f g).1 (s.each g l)) (subst (λ (j : ℕ). T (eqb j h)) (sym part) (eqb_refl h))) b)

-- ---- the cut at the places so far

cut_front : (xs : List ℕ) (n g i : ℕ) → n ≤ length xs → T (bit (cut (take n xs) g) i) ↔ ((i < n) × T (bit g (get_or xs i 0)))
cut_front xs n g i short =
    let size : length (take n xs) ≡ n = simp length-take (omega arith) in
    let here = bit_cut (take n xs) g i in (
      λ t.
          let k = here.0 t in
          let l : i < n = let m = k.0 in omega arith in
          (l, subst (λ (x : ℕ). T (bit g x)) (get_or-take n xs i 0 l) k.1),
      λ k.
          let l = k.0 in
          here.1 (omega arith, subst (λ (x : ℕ). T (bit g x)) (sym (get_or-take n xs i 0 l)) k.1),
    )

module _ (xs : List ℕ) (k g : ℕ) (low : k < length xs) where
  pub cut_in : T (bit g (get_or xs k 0)) → bit_or (cut (take k xs) g) (2 ^ k) ≡ cut (take (k + 1) xs) g
  cut_in here =
      same_bits (bit_or (cut (take k xs) g) (2 ^ k)) (cut (take (k + 1) xs) g)
      (λ i t.
      (cut_front xs (k + 1) g i (omega arith)).1
      (⊎_elim (λ a. let h = (cut_front xs k g i (omega arith)).0 a in (let l = h.0 in omega arith, h.1))
      (λ b. let e = power_bit k i b in (omega arith, subst (λ (j : ℕ). T (bit g (get_or xs j 0))) (sym e) here))
      (or_split (bit (cut (take k xs) g) i) (bit (2 ^ k) i) (subst T (bit_of_or (cut (take k xs) g) (2 ^ k) i) t))))
      (λ i t.
      let h = (cut_front xs (k + 1) g i (omega arith)).0 t in
      let l = h.0 in
      subst T (sym (bit_of_or (cut (take k xs) g) (2 ^ k) i))
      (⊎_elim (λ e. or_right (bit (cut (take k xs) g) i) (bit (2 ^ k) i) (subst (λ (j : ℕ). T (bit (2 ^ k) j)) (sym e) (bit_power k)))
      (λ d. or_left (bit (cut (take k xs) g) i) (bit (2 ^ k) i) ((cut_front xs k g i (omega arith)).1 (omega arith, h.1))) (cases_eq i k)))

  pub cut_out : (T (bit g (get_or xs k 0)) → ⊥) → cut (take k xs) g ≡ cut (take (k + 1) xs) g
  cut_out gone =
      same_bits (cut (take k xs) g) (cut (take (k + 1) xs) g)
      (λ i t.
      let h = (cut_front xs k g i (omega arith)).0 t in
      (cut_front xs (k + 1) g i (omega arith)).1 (let l = h.0 in omega arith, h.1))
      (λ i t.
      let h = (cut_front xs (k + 1) g i (omega arith)).0 t in
      let l = h.0 in
      ⊎_elim (λ e. absurd (gone (subst (λ (j : ℕ). T (bit g (get_or xs j 0))) e h.1)))
      (λ d. (cut_front xs k g i (omega arith)).1 (omega arith, h.1)) (cases_eq i k))
