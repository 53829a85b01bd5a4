-- An equation's outcomes are described by `tied`. Assumes nothing.
use Rattle.std.specs.Prelude.{◌≡◌, ℕ, ◌<◌, Bool, not, ◌&&◌, T, ◌⊎◌, List, [], ◌∷◌, map, refl}
use Rattle.std.proofs.Common.{sym, subst, ◌∙◌, inl, inr, ⊎_elim, arith}
use Rattle.std.proofs.Math.Dec.{not_T}
use Rattle.std.proofs.lemmas.List.{length-map}
use Rattle.domain.specs.Variables.{Listed}
use Rattle.domain.specs.Term.{Term, Subst, Occurs, Among, Inside, Above, apply, terms, term_at, pick}
use Rattle.domain.specs.Outcomes.{Unifies, Side}
use Rattle.domain.specs.Outcomes.Side.{one, built}
use Rattle.families.specs.Masks.{bit, meets}
use Rattle.rows.specs.Values.{Value}
use Rattle.sharing.specs.Sharing.{Grouped, Describes, touches, picks, union, tied}
use Rattle.domain.proofs.Booleans.{and_pair, or_split, or_left, or_right}
use Rattle.families.proofs.Tests.{meets_some, some_meets}
use Rattle.domain.proofs.Terms.{decide_occurs, occurs_from, occurs_into, picked_some, some_picked}
use Rattle.sharing.specs.Laws.Picks.{some_picks, all_union}
use Rattle.sharing.specs.Laws.Moves.{after, after_places, origin, picked, united, all_move, after_held}

-- ---- the right side holds the variables of the places listed

among_inside : (ts : List Term) (u : ℕ) → Among u (terms ts) → Inside u ts
among_inside [] u h = h
among_inside (t ∷ ts) u (inl h) = inl h
among_inside (t ∷ ts) u (inr h) = inr (among_inside ts u h)

inside_among : (ts : List Term) (u : ℕ) → Inside u ts → Among u (terms ts)
inside_among [] u h = h
inside_among (t ∷ ts) u (inl h) = inl h
inside_among (t ∷ ts) u (inr h) = inr (inside_among ts u h)

side_some : (ts : List Term) {ys : List ℕ} {right : Term} → Side ts ys right → (u : ℕ) → Occurs u right → (y : ℕ) × Listed y ys × Occurs u (term_at ts y)
side_some ts (one y) u h = (y, inl refl, h)
side_some ts (built f ys) u h = picked_some ts ys u (among_inside (pick ys ts) u h)

some_side : (ts : List Term) {ys : List ℕ} {right : Term} → Side ts ys right → (u y : ℕ) → Listed y ys → Occurs u (term_at ts y) → Occurs u right
some_side ts (one z) u y l h = ⊎_elim (λ e. subst (λ (k : ℕ). Occurs u (term_at ts k)) e h) (λ n. absurd n) l
some_side ts (built f ys) u y l h = inside_among (pick ys ts) u (some_picked ts ys u y l h)

-- ---- the groups after

module _ (a : Value) (x : ℕ) (ys : List ℕ) (ts : List Term) (described : Describes a ts)
    (n : ℕ) (above : Above n ts) (right : Term) (side : Side ts ys right)
    (s : Subst) (unifies : Unifies n (term_at ts x) right s) (u : ℕ) where
  abbrev left : Term
  left = term_at ts x

  abbrev OnSide : ℕ → Type 0
  OnSide w = Occurs w left ⊎ Occurs w right

  on_side : (w : ℕ) → OnSide w ⊎ (OnSide w → ⊥)
  on_side w =
      ⊎_elim (λ l. inl (inl l)) (λ n₁. ⊎_elim (λ r. inl (inr r)) (λ n₂. inr (λ o. ⊎_elim n₁ n₂ o)) (decide_occurs w right)) (decide_occurs w left)

  stays : (w : ℕ) → Inside w ts → (OnSide w → ⊥) → s w ≡ Term.var w
  stays w inside off = unifies.stays w (λ l. off (inl l)) (λ r. off (inr r))

  abbrev h : ℕ
  h = after ts s u

  abbrev p : ℕ → Bool
  p = touches x ys

  abbrev with_x : Bool
  with_x = picks a p h (λ g. bit g x)

  abbrev with_ys : Bool
  with_ys = picks a p h (meets ys)

  -- Where u is on a side after, it comes from variables on the sides only, so their groups touch x or ys; one of these
  -- variables is on the left side and one on the right.
  module _ (found : Occurs u (apply s left)) where
    -- a variable on no side does not come in
    not_old : (OnSide u → ⊥) → Inside u ts → ⊥
    not_old off inside =
        let small : u < n = above u inside in
        let (v, o, k) = occurs_from s u left found in
        ⊎_elim off (λ new. omega arith) (unifies.brings v u (inl o) k)

    touching : (w i : ℕ) → Occurs w (term_at ts i) → Occurs u (s w) → T (p (described.1 w).g)
    touching w i o k =
        let g = (described.1 w).g in
        let exact = (described.1 w).exact in
        ⊎_elim (λ l. or_left (bit g x) (meets ys g) ((exact x).1 l))
        (λ r. let (y, m, q) = side_some ts side w r in or_right (bit g x) (meets ys g) (some_meets ys g y m ((exact y).1 q)))
        (all_move a ts described s u OnSide on_side stays not_old w i o k)

    has_x : T with_x
    has_x =
        let (w, o, k) = occurs_from s u left found in
        some_picks a p h (λ g. bit g x) (picked a ts described s u p touching (λ g. bit g x) w x o k (((described.1 w).exact x).1 o))

    meets_ys : T with_ys
    meets_ys =
        let (w, o, k) = occurs_from s u right (subst (λ (t : Term). Occurs u t) unifies.equal found) in
        let (y, m, q) = side_some ts side w o in
        some_picks a p h (meets ys)
        (picked a ts described s u p touching (meets ys) w y q k (some_meets ys (described.1 w).g y m (((described.1 w).exact y).1 q)))

    made : T (union a p h && (with_x && with_ys))
    made =
        and_pair (union a p h) (with_x && with_ys) (all_union a p h (united a ts described s u p touching))
        (and_pair with_x with_ys has_x meets_ys)

  -- Where u is on no side after, it comes from no variable on a side.
  module _ (missing : Occurs u (apply s left) → ⊥) where
    none : (w : ℕ) → OnSide w → Occurs u (s w) → ⊥
    none w o k =
        ⊎_elim (λ l. missing (occurs_into s u w left l k))
        (λ r. missing (subst (λ (t : Term). Occurs u t) (sym unifies.equal) (occurs_into s u w right r k))) o

    untouched : T (p h) → ⊥
    untouched t =
        ⊎_elim (λ b. let (w, o, k) = origin ts s u x b in none w (inl o) k)
        (λ m. let (y, l, b) = meets_some ys h m in
        let (w, o, k) = origin ts s u y b in
        none w (inr (some_side ts side w y l o)) k)
        (or_split (bit h x) (meets ys h) t)

    kept : T (a.has h && not (p h))
    kept = and_pair (a.has h) (not (p h)) (after_held a ts described s u OnSide on_side stays none) (not_T (p h) untouched)

  tie_group : Grouped (tied a x ys) (map (apply s) ts) u
  tie_group = record {
    g = h;
    held =
        ⊎_elim (λ found. or_right (a.has h && not (p h)) (union a p h && (with_x && with_ys)) (made found))
        (λ missing. or_left (a.has h && not (p h)) (union a p h && (with_x && with_ys)) (kept missing))
        (decide_occurs u (apply s left));
    exact = after_places ts s u;
  }

pub tie_describes : (a : Value) (x : ℕ) (ys : List ℕ) (ts : List Term) → Describes a ts → (n : ℕ) → Above n ts → (right : Term) → Side ts ys right → (s : Subst) → Unifies n (term_at ts x) right s → Describes (tied a x ys) (map (apply s) ts)
tie_describes a x ys ts described n above right side s unifies =
    (length-map ts (apply s) ∙ described.0, tie_group a x ys ts described n above right side s unifies)
