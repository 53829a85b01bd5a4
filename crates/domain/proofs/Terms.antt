-- Where variables occur: a test for it, in a list by places, after a substitution, and a number above them all. Assumes nothing.
use Rattle.std.proofs.Common.{◌≡◌, ℕ, zero, suc, ◌+◌, ◌<◌, Bool, false, ◌||◌, T, eqb, ◌⊎◌, List, [], ◌∷◌, map, length, sym, refl, subst, inl, inr, ⊎_elim, arith, eqb→eq}
use lib.Dec.{eqb_refl}
use lib.ListN.{get_or-map}
use Rattle.domain.specs.Variables.{Listed}
use Rattle.domain.specs.Term.{Term, Terms, Subst, Occurs, Among, Inside, Above, apply, applies, term_at, pick}
use Rattle.domain.specs.Term.Term.{var, app}
use Rattle.domain.specs.Term.Terms.{end, arg}
use Rattle.domain.proofs.Booleans.{or_split, or_left, or_right, tested}

-- ---- a test of occurrence

abbrev mutual
  pub occurs : ℕ → Term → Bool
  occurs u (var v) = eqb u v
  occurs u (app f ts) = among u ts

  pub among : ℕ → Terms → Bool
  among u end = false
  among u (arg t ts) = occurs u t || among u ts

mutual
  pub occurs_fact : (u : ℕ) (t : Term) → T (occurs u t) → Occurs u t
  occurs_fact u (var v) h = eqb→eq u v h
  occurs_fact u (app f ts) h = among_fact u ts h

  pub among_fact : (u : ℕ) (ts : Terms) → T (among u ts) → Among u ts
  among_fact u end h = h
  among_fact u (arg t ts) h =
      ⊎_elim (λ l. inl (occurs_fact u t l)) (λ r. inr (among_fact u ts r)) (or_split (occurs u t) (among u ts) h)

mutual
  pub fact_occurs : (u : ℕ) (t : Term) → Occurs u t → T (occurs u t)
  fact_occurs u (var v) e = subst (λ (w : ℕ). T (eqb u w)) e (eqb_refl u)
  fact_occurs u (app f ts) h = fact_among u ts h

  pub fact_among : (u : ℕ) (ts : Terms) → Among u ts → T (among u ts)
  fact_among u end h = h
  fact_among u (arg t ts) h =
      ⊎_elim (λ l. or_left (occurs u t) (among u ts) (fact_occurs u t l))
      (λ r. or_right (occurs u t) (among u ts) (fact_among u ts r)) h

pub decide_occurs : (u : ℕ) (t : Term) → Occurs u t ⊎ (Occurs u t → ⊥)
decide_occurs u t =
    ⊎_elim (λ y. inl (occurs_fact u t y)) (λ n. inr (λ h. n (fact_occurs u t h))) (tested (occurs u t))

-- ---- after a substitution

mutual
  -- a variable of `apply s t` comes from a variable of t
  pub occurs_from : (s : Subst) (u : ℕ) (t : Term) → Occurs u (apply s t) → (w : ℕ) × Occurs w t × Occurs u (s w)
  occurs_from s u (var v) h = (v, refl, h)
  occurs_from s u (app f ts) h = among_from s u ts h

  pub among_from : (s : Subst) (u : ℕ) (ts : Terms) → Among u (applies s ts) → (w : ℕ) × Among w ts × Occurs u (s w)
  among_from s u end h = elim h [ ]
  among_from s u (arg t ts) h =
      ⊎_elim (λ l. let (w, o, k) = occurs_from s u t l in (w, inl o, k))
      (λ r. let (w, o, k) = among_from s u ts r in (w, inr o, k)) h

mutual
  pub occurs_into : (s : Subst) (u w : ℕ) (t : Term) → Occurs w t → Occurs u (s w) → Occurs u (apply s t)
  occurs_into s u w (var v) e k = subst (λ (x : ℕ). Occurs u (s x)) e k
  occurs_into s u w (app f ts) h k = among_into s u w ts h k

  pub among_into : (s : Subst) (u w : ℕ) (ts : Terms) → Among w ts → Occurs u (s w) → Among u (applies s ts)
  among_into s u w end h k = h
  among_into s u w (arg t ts) h k = ⊎_elim (λ l. inl (occurs_into s u w t l k)) (λ r. inr (among_into s u w ts r k)) h

-- a variable that s leaves alone
pub alone_from : (s : Subst) (u w : ℕ) → s w ≡ var w → Occurs u (s w) → u ≡ w
alone_from s u w e h = subst (λ (t : Term). Occurs u t) e h

pub alone_into : (s : Subst) (u : ℕ) → s u ≡ var u → (t : Term) → Occurs u t → Occurs u (apply s t)
alone_into s u e t h = occurs_into s u u t h (subst (λ (r : Term). Occurs u r) (sym e) refl)

-- past its end a list is read as a constant, before and after
pub applied_at : (s : Subst) (ts : List Term) (i : ℕ) → term_at (map (apply s) ts) i ≡ apply s (term_at ts i)
applied_at s ts i = get_or-map (apply s) ts i (app 0 end)

-- ---- in a list, by places

pub inside_at : (ts : List Term) (i u : ℕ) → Occurs u (term_at ts i) → Inside u ts
inside_at [] i u h = h
inside_at (t ∷ ts) zero u h = inl h
inside_at (t ∷ ts) (suc i) u h = inr (inside_at ts i u h)

-- what is read past the end holds no variable
pub place_below : (ts : List Term) (i u : ℕ) → Occurs u (term_at ts i) → i < length ts
place_below [] i u h = absurd h
place_below (t ∷ ts) zero u h = omega arith
place_below (t ∷ ts) (suc i) u h = let l = place_below ts i u h in omega arith

-- of the terms at the places listed
pub picked_some : (ts : List Term) (xs : List ℕ) (u : ℕ) → Inside u (pick xs ts) → (x : ℕ) × Listed x xs × Occurs u (term_at ts x)
picked_some ts [] u h = elim h [ ]
picked_some ts (x ∷ xs) u (inl h) = (x, inl refl, h)
picked_some ts (x ∷ xs) u (inr h) = let (y, l, o) = picked_some ts xs u h in (y, inr l, o)

pub some_picked : (ts : List Term) (xs : List ℕ) (u x : ℕ) → Listed x xs → Occurs u (term_at ts x) → Inside u (pick xs ts)
some_picked ts [] u x l h = l
some_picked ts (y ∷ xs) u x (inl e) h = inl (subst (λ (z : ℕ). Occurs u (term_at ts z)) e h)
some_picked ts (y ∷ xs) u x (inr l) h = inr (some_picked ts xs u x l h)

pub decide_inside : (u : ℕ) (ts : List Term) → Inside u ts ⊎ (Inside u ts → ⊥)
decide_inside u [] = inr (λ h. h)
decide_inside u (t ∷ ts) =
    ⊎_elim (λ y. inl (inl y))
    (λ n. ⊎_elim (λ y. inl (inr y)) (λ m. inr (λ h. ⊎_elim n m h)) (decide_inside u ts))
    (decide_occurs u t)

-- ---- a number above every variable

mutual
  top : (t : Term) → (n : ℕ) × ((u : ℕ) → Occurs u t → u < n)
  top (var v) = (suc v, λ u e. omega arith)
  top (app f ts) = tops ts

  tops : (ts : Terms) → (n : ℕ) × ((u : ℕ) → Among u ts → u < n)
  tops end = (0, λ u h. absurd h)
  tops (arg t ts) =
      let (m, f) = top t in
      let (n, g) = tops ts in
      (m + n, λ u h. ⊎_elim (λ o. let l = f u o in omega arith) (λ o. let l = g u o in omega arith) h)

pub some_above : (ts : List Term) → (n : ℕ) × Above n ts
some_above [] = (0, λ u h. absurd h)
some_above (t ∷ ts) =
    let (m, f) = top t in
    let (n, g) = some_above ts in
    (m + n, λ u h. ⊎_elim (λ o. let l = f u o in omega arith) (λ o. let l = g u o in omega arith) h)
