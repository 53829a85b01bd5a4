-- What `viewed` and `entered` describe. Assumes nothing.
use Rattle.std.specs.Prelude.{◌≡◌, ℕ, zero, suc, ◌+◌, ◌-◌, ◌^◌, ◌<◌, ◌≤◌, ◌&&◌, ◌||◌, T, ◌⊎◌, List, [], ◌∷◌, ◌++◌, map, length, ◌==◌, nat_le, refl}
use Rattle.std.proofs.Common.{sym, ap, subst, inl, inr, ⊎_elim, arith, le→leb, length-append}
use Rattle.std.proofs.Math.Dec.{eqb_refl}
use Rattle.std.proofs.Math.ListN.{get_or-append}
use Rattle.std.proofs.lemmas.List.{get_or-append_right, length-map}
use Rattle.std.proofs.lemmas.Bool.{cases_lt}
use Rattle.domain.specs.Variables.{Listed, Different}
use Rattle.domain.specs.Term.{Term, Occurs, Inside, term_at, pick}
use Rattle.domain.specs.Term.Term.{var, app}
use Rattle.domain.specs.Term.Terms.{end}
use Rattle.families.specs.Masks.{bit, cut, any}
use Rattle.rows.specs.Values.{Value, viewed}
use Rattle.sharing.specs.Sharing.{Grouped, Describes, entered}
use Rattle.domain.proofs.Booleans.{and_pair, or_left, or_right}
use Rattle.families.proofs.Tests.{some_any}
use Rattle.domain.proofs.Lists.{decide_listed}
use Rattle.families.proofs.Masks.{bit_power, power_bit}
use Rattle.rows.proofs.Values.{some_viewed}
use Rattle.domain.proofs.Terms.{inside_at, place_below}
use Rattle.sharing.specs.Laws.Picks.{cut_places, empty_held, group_below}

-- ---- view

pub view_describes : (a : Value) (xs : List ℕ) (ts : List Term) → Describes a ts → Describes (viewed a xs) (pick xs ts)
view_describes a xs ts described = (
  length-map xs (term_at ts),
  λ u.
      let k = described.1 u in
      record {
        g = cut xs k.g;
        held = some_viewed a xs k.g (group_below a ts described u) k.held;
        exact = cut_places ts xs u k.g k.exact;
      },
)

-- ---- enter: a list of variables

occurs_listed : (us : List ℕ) (u i : ℕ) → Occurs u (term_at (map var us) i) → Listed u us
occurs_listed [] u i o = o
occurs_listed (z ∷ us) u zero o = inl o
occurs_listed (z ∷ us) u (suc i) o = inr (occurs_listed us u i o)

-- of different variables, each stands at one place
record Stands (us : List ℕ) (u : ℕ) : Type 0 where
  place : ℕ
  below : place < length us
  there : Occurs u (term_at (map var us) place)
  only : (i : ℕ) → Occurs u (term_at (map var us) i) → i ≡ place

stands : (us : List ℕ) (u : ℕ) → Different us → Listed u us → Stands us u
stands [] u d l = elim l [ ]
stands (z ∷ us) u d (inl e) = record { place = 0; below = omega arith; there = e; only = only }
  where
    only : (i : ℕ) → Occurs u (term_at (map var (z ∷ us)) i) → i ≡ 0
    only zero o = refl
    only (suc i) o = absurd (d.0 (subst (λ (y : ℕ). Listed y us) e (occurs_listed us u i o)))
stands (z ∷ us) u d (inr l) = go (stands us u d.1 l)
  where
    go : Stands us u → Stands (z ∷ us) u
    go k = record { place = suc k.place; below = let b = k.below in omega arith; there = k.there; only = only }
      where
        only : (i : ℕ) → Occurs u (term_at (map var (z ∷ us)) i) → i ≡ suc k.place
        only zero o = absurd (d.0 (subst (λ (y : ℕ). Listed y us) o l))
        only (suc i) o = ap suc (k.only i o)

-- ---- enter

module _ (a : Value) (v : ℕ) (ts : List Term) (described : Describes a ts) (us : List ℕ) (sum : a.width + length us ≡ v)
    (different : Different us) (new : (u : ℕ) → Listed u us → Inside u ts → ⊥) where
  abbrev n : ℕ
  n = a.width

  abbrev all_terms : List Term
  all_terms = ts ++ map var us

  at_old : (i : ℕ) → i < n → term_at all_terms i ≡ term_at ts i
  at_old i l = let e = described.0 in get_or-append ts (map var us) (app 0 end) i (omega arith)

  at_new : (i : ℕ) → n ≤ i → term_at all_terms i ≡ term_at (map var us) (i - n)
  at_new i l = get_or-append_right ts (map var us) n i (app 0 end) described.0 l

  -- what occurs in the longer list
  occurs_split : (u i : ℕ) → Occurs u (term_at all_terms i) → ((i < n) × Occurs u (term_at ts i)) ⊎ ((n ≤ i) × Occurs u (term_at (map var us) (i - n)))
  occurs_split u i o =
      ⊎_elim (λ l. inl (l, subst (λ (t : Term). Occurs u t) (at_old i l) o)) (λ l. inr (l, subst (λ (t : Term). Occurs u t) (at_new i l) o))
      (cases_lt i n)

  old_group : (u : ℕ) → (Listed u us → ⊥) → Grouped (entered a v) all_terms u
  old_group u not_new =
      let k = described.1 u in
      record {
        g = k.g;
        held =
            and_pair (a.has 0) (a.has k.g || any v (λ i. nat_le n i && k.g == 2 ^ i)) (empty_held a ts described)
            (or_left (a.has k.g) (any v (λ i. nat_le n i && k.g == 2 ^ i)) k.held);
        exact = λ i. (
          λ b.
              let o = (k.exact i).0 b in
              let e = described.0 in
              let l = place_below ts i u o in
              subst (λ (t : Term). Occurs u t) (sym (at_old i (omega arith))) o,
          λ o. ⊎_elim (λ h. (k.exact i).1 h.1) (λ h. absurd (not_new (occurs_listed us u (i - n) h.1))) (occurs_split u i o),
        );
      }

  new_group : (u : ℕ) → Listed u us → Grouped (entered a v) all_terms u
  new_group u listed =
      let k = stands us u different listed in
      let m = n + k.place in
      record {
        g = 2 ^ m;
        held =
            and_pair (a.has 0) (a.has (2 ^ m) || any v (λ i. nat_le n i && 2 ^ m == 2 ^ i)) (empty_held a ts described)
            (or_right (a.has (2 ^ m)) (any v (λ i. nat_le n i && 2 ^ m == 2 ^ i))
            (some_any v (λ i. nat_le n i && 2 ^ m == 2 ^ i) m (let b = k.below in omega arith)
            (and_pair (nat_le n m) (2 ^ m == 2 ^ m) (le→leb n m (omega arith)) (eqb_refl (2 ^ m)))));
        exact = λ i. (
          λ b.
              let e : i ≡ n + k.place = power_bit m i b in
              let back : k.place ≡ i - n = omega arith in
              subst (λ (t : Term). Occurs u t) (sym (at_new i (omega arith))) (subst (λ (j : ℕ). Occurs u (term_at (map var us) j)) back k.there),
          λ o. ⊎_elim (λ h. absurd (new u listed (inside_at ts i u h.1)))
              (λ h.
              let e : i - n ≡ k.place = k.only (i - n) h.1 in
              let l : n ≤ i = h.0 in
              let same : n + k.place ≡ i = omega arith in
              subst (λ (j : ℕ). T (bit (2 ^ m) j)) same (bit_power m))
              (occurs_split u i o),
        );
      }

  pub enter_describes : Describes (entered a v) all_terms
  enter_describes =
      let e = described.0 in (
        omega (arith, length-append ts (map var us), length-map us var),
        λ u. ⊎_elim (new_group u) (old_group u) (decide_listed u us),
      )
