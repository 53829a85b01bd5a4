-- Sets as they are listed, one more at a time. Assumes nothing.
use Rattle.std.proofs.Common.{◌≡◌, ℕ, zero, suc, ◌+◌, ◌<◌, Bool, ◌&&◌, ◌||◌, T, eqb, ltb, ◌⊎◌, ◌↔◌, List, [], ◌∷◌, ◌++◌, length, get_or, take, sym, subst, inl, inr, ⊎_elim, arith, eqb→eq, lt→ltb, Bor}
use lib.Dec.{eqb_refl}
use Rattle.std.proofs.lemmas.List.{take_more}
use Rattle.domain.specs.Variables.{Below, widest}
use Rattle.families.specs.Listings.{Within, Coded, Codes}
use Rattle.families.specs.Words.{sets}
use Rattle.domain.proofs.Booleans.{and_split, and_pair, or_split, or_left, or_right}
use Rattle.families.proofs.Masks.{same_bits, bits_below}

-- ---- within a bound

within_append : (n : ℕ) (xss yss : List (Bor (List ℕ))) → Within n xss → Within n yss → Within n (xss ++ yss)
within_append n [] yss a b = b
within_append n (xs ∷ xss) yss a b = (a.0, within_append n xss yss a.1 b)

pub within_more : (n k : ℕ) (xss : List (Bor (List ℕ))) (d : Bor (List ℕ)) → k < length xss → Within n (take k xss) → Below n (get_or xss k d).now → Within n (take (k + 1) xss)
within_more n k xss d low so_far here =
    subst (Within n) (sym (take_more xss k d low)) (within_append n (take k xss) (get_or xss k d ∷ []) so_far (here, tt))

pub within_at : (n k : ℕ) (xss : List (Bor (List ℕ))) (d : Bor (List ℕ)) → k < length xss → Within n xss → Below n (get_or xss k d).now
within_at n k [] d low all = absurd (omega arith)
within_at n zero (xs ∷ xss) d low all = all.0
within_at n (suc k) (xs ∷ xss) d low all = within_at n k xss d (omega arith) all.1

-- ---- a set that is listed

pub coded_below : (xs : List ℕ) (g : ℕ) → Coded xs g → g < sets
coded_below xs g coded = bits_below widest g (λ i high t. let l = ((coded i).0 t).1 in omega arith)

pub coded_one : (xs : List ℕ) (g h : ℕ) → Coded xs g → Coded xs h → g ≡ h
coded_one xs g h p q = same_bits g h (λ i t. (q i).1 ((p i).0 t)) (λ i t. (p i).1 ((q i).0 t))

-- ---- one of the sets

codes_append : (xss yss : List (Bor (List ℕ))) (g : ℕ) → Codes (xss ++ yss) g → Codes xss g ⊎ Codes yss g
codes_append [] yss g c = inr c
codes_append (xs ∷ xss) yss g (inl c) = inl (inl c)
codes_append (xs ∷ xss) yss g (inr c) = ⊎_elim (λ l. inl (inr l)) inr (codes_append xss yss g c)

codes_left : (xss yss : List (Bor (List ℕ))) (g : ℕ) → Codes xss g → Codes (xss ++ yss) g
codes_left [] yss g c = elim c [ ]
codes_left (xs ∷ xss) yss g (inl c) = inl c
codes_left (xs ∷ xss) yss g (inr c) = inr (codes_left xss yss g c)

codes_right : (xss yss : List (Bor (List ℕ))) (g : ℕ) → Codes yss g → Codes (xss ++ yss) g
codes_right [] yss g c = c
codes_right (xs ∷ xss) yss g c = inr (codes_right xss yss g c)

pub codes_more : (k : ℕ) (xss : List (Bor (List ℕ))) (d : Bor (List ℕ)) (g : ℕ) → k < length xss → Codes (take (k + 1) xss) g ↔ (Codes (take k xss) g ⊎ Coded (get_or xss k d).now g)
codes_more k xss d g low =
    let e = take_more xss k d low in
    let one : List (Bor (List ℕ)) = get_or xss k d ∷ [] in (
      λ c.
          ⊎_elim inl (λ r. inr (⊎_elim (λ h. h) (λ n. absurd n) r))
          (codes_append (take k xss) one g (subst (λ (yss : List (Bor (List ℕ))). Codes yss g) e c)),
      λ h.
          subst (λ (yss : List (Bor (List ℕ))). Codes yss g) (sym e)
          (⊎_elim (codes_left (take k xss) one g) (λ r. codes_right (take k xss) one g (inl r)) h),
    )

-- a set that is put in beside the sets so far
pub codes_in : (k m : ℕ) (xss : List (Bor (List ℕ))) (d : Bor (List ℕ)) → k < length xss → Coded (get_or xss k d).now m → (before after : ℕ → Bool) → ((g : ℕ) → T (before g) ↔ Codes (take k xss) g) → ((g : ℕ) → after g ≡ (before g || (eqb g m && ltb m sets))) → (g : ℕ) → T (after g) ↔ Codes (take (k + 1) xss) g
codes_in k m xss d low coded before after so_far made g =
    let more = codes_more k xss d g low in
    let xs = (get_or xss k d).now in (
      λ t.
          more.1
          (⊎_elim (λ b. inl ((so_far g).0 b))
          (λ e. inr (subst (λ (j : ℕ). Coded xs j) (sym (eqb→eq g m (and_split (eqb g m) (ltb m sets) e).0)) coded))
          (or_split (before g) (eqb g m && ltb m sets) (subst T (made g) t))),
      λ c.
          subst T (sym (made g))
          (⊎_elim (λ b. or_left (before g) (eqb g m && ltb m sets) ((so_far g).1 b))
          (λ h.
          or_right (before g) (eqb g m && ltb m sets)
          (and_pair (eqb g m) (ltb m sets) (subst (λ (j : ℕ). T (eqb g j)) (coded_one xs g m h coded) (eqb_refl g))
          (lt→ltb m sets (coded_below xs m coded))))
          (more.0 c)),
    )
