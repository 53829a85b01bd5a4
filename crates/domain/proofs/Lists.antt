-- What is listed in two lists put together, and at a place of one; different numbers below a bound are few. Assumes nothing.
use Rattle.std.proofs.Common.{◌≡◌, ℕ, zero, suc, ◌<◌, ◌≤◌, ◌⊎◌, List, [], ◌∷◌, ◌++◌, length, get_or, sym, refl, ap, ◌∙◌, subst, inl, inr, ⊎_elim, arith}
use Rattle.std.proofs.lemmas.Bool.{cases_eq}
use Rattle.domain.specs.Variables.{Listed, Different, Below}

pub listed_append : (i : ℕ) (xs ys : List ℕ) → Listed i (xs ++ ys) → Listed i xs ⊎ Listed i ys
listed_append i [] ys l = inr l
listed_append i (x ∷ xs) ys (inl e) = inl (inl e)
listed_append i (x ∷ xs) ys (inr l) = ⊎_elim (λ a. inl (inr a)) inr (listed_append i xs ys l)

pub listed_left : (i : ℕ) (xs ys : List ℕ) → Listed i xs → Listed i (xs ++ ys)
listed_left i [] ys l = elim l [ ]
listed_left i (x ∷ xs) ys (inl e) = inl e
listed_left i (x ∷ xs) ys (inr l) = inr (listed_left i xs ys l)

pub listed_right : (i : ℕ) (xs ys : List ℕ) → Listed i ys → Listed i (xs ++ ys)
listed_right i [] ys l = l
listed_right i (x ∷ xs) ys l = inr (listed_right i xs ys l)

pub listed_at : (xs : List ℕ) (k : ℕ) → k < length xs → Listed (get_or xs k 0) xs
listed_at [] k low = absurd (omega arith)
listed_at (x ∷ xs) zero low = inl refl
listed_at (x ∷ xs) (suc k) low = inr (listed_at xs k (omega arith))

-- ---- every number listed, by its place

pub below_each : (xs : List ℕ) (n : ℕ) → Below n xs → (k : ℕ) → k < length xs → get_or xs k 0 < n
below_each xs n below k low = below (get_or xs k 0) (listed_at xs k low)

pub each_below : (xs : List ℕ) (n : ℕ) → ((k : ℕ) → k < length xs → get_or xs k 0 < n) → Below n xs
each_below [] n each x l = elim l [ ]
each_below (y ∷ xs) n each x (inl e) = let l = each 0 (omega arith) in omega arith
each_below (y ∷ xs) n each x (inr l) = each_below xs n (λ k low. each (suc k) (omega arith)) x l

-- ---- different numbers below n are no more than n

pub decide_listed : (k : ℕ) (xs : List ℕ) → Listed k xs ⊎ (Listed k xs → ⊥)
decide_listed k [] = inr (λ l. l)
decide_listed k (x ∷ xs) =
    ⊎_elim (λ e. inl (inl e)) (λ n. ⊎_elim (λ l. inl (inr l)) (λ m. inr (λ l. ⊎_elim n m l)) (decide_listed k xs)) (cases_eq k x)

-- xs without its first k
record Without (k : ℕ) (xs : List ℕ) : Type 0 where
  rest : List ℕ
  size : length xs ≡ suc (length rest)
  from : (i : ℕ) → Listed i rest → Listed i xs
  other : (i : ℕ) → Listed i rest → i ≡ k → ⊥
  different : Different rest

without : (k : ℕ) (xs : List ℕ) → Different xs → Listed k xs → Without k xs
without k [] d l = elim l [ ]
without k (x ∷ xs) d (inl e) =
    record { rest = xs; size = refl; from = λ i l. inr l; other = λ i l f. d.0 (subst (λ (j : ℕ). Listed j xs) (f ∙ e) l); different = d.1 }
without k (x ∷ xs) d (inr l) = step (without k xs d.1 l)
  where
    step : Without k xs → Without k (x ∷ xs)
    step w = record {
      rest = x ∷ w.rest;
      size = ap suc w.size;
      from = λ i m. ⊎_elim inl (λ n. inr (w.from i n)) m;
      other = λ i m f. ⊎_elim (λ e. d.0 (subst (λ (j : ℕ). Listed j xs) (sym f ∙ e) l)) (λ n. w.other i n f) m;
      different = (λ m. d.0 (w.from x m), w.different);
    }

pub different_few : (n : ℕ) (xs : List ℕ) → Below n xs → Different xs → length xs ≤ n
different_few zero [] below d = omega arith
different_few zero (x ∷ xs) below d = let l = below x (inl refl) in absurd (omega arith)
different_few (suc n) xs below d =
    ⊎_elim
    (λ l.
    let w = without n xs d l in
    let size = w.size in
    let few = different_few n w.rest (λ i m. let b = below i (w.from i m) in let o = w.other i m in omega arith) w.different in
    omega arith)
    (λ none.
    let few = different_few n xs (λ i m. let b = below i m in let o : i ≡ n → ⊥ = λ e. none (subst (λ (j : ℕ). Listed j xs) e m) in omega arith) d in
    omega arith)
    (decide_listed n xs)
