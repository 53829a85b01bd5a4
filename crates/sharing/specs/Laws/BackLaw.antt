-- A call's outcomes are described by `backed`. Assumes nothing.
use Rattle.std.specs.Prelude.{◌≡◌, ℕ, Bool, true, not, ◌&&◌, ◌||◌, T, ◌⊎◌, List, [], ◌∷◌, map, refl}
use Rattle.std.proofs.Common.{sym, ap₂, subst, ◌∙◌, ⊎_elim}
use Rattle.std.proofs.Math.Dec.{not_T}
use Rattle.std.proofs.lemmas.List.{length-map}
use Rattle.domain.specs.Variables.{Listed}
use Rattle.domain.specs.Term.{Term, Subst, Occurs, Inside, apply, term_at, pick}
use Rattle.domain.specs.Outcomes.{Returns}
use Rattle.families.specs.Masks.{cut, meets}
use Rattle.rows.specs.Values.{Value}
use Rattle.sharing.specs.Sharing.{Grouped, Describes, picks, union, backed}
use Rattle.domain.proofs.Booleans.{and_pair, or_left, or_right}
use Rattle.families.proofs.Tests.{meets_some, some_meets}
use Rattle.domain.proofs.Terms.{decide_inside, occurs_from, occurs_into, applied_at, picked_some, some_picked}
use Rattle.sharing.specs.Laws.Picks.{Places, places_held, empty_held, cut_places, some_picks, all_union}
use Rattle.sharing.specs.Laws.Moves.{after, after_places, after_exact, picked, united, all_move, after_held}

pick_applied : (s : Subst) (ts : List Term) (xs : List ℕ) → pick xs (map (apply s) ts) ≡ map (apply s) (pick xs ts)
pick_applied s ts [] = refl
pick_applied s ts (x ∷ xs) = ap₂ {C = List Term} (λ t r. t ∷ r) (applied_at s ts x) (pick_applied s ts xs)

module _ (a : Value) (args : List ℕ) (b : Value) (ts rs : List Term) (described : Describes a ts) (returned : Describes b rs)
    (caller : (u : ℕ) → Inside u rs → Inside u (pick args ts) ⊎ (Inside u ts → ⊥))
    (s : Subst) (returns : Returns ts args rs s) (u : ℕ) where
  abbrev InArgument : ℕ → Type 0
  InArgument w = Inside w (pick args ts)

  in_argument : (w : ℕ) → InArgument w ⊎ (InArgument w → ⊥)
  in_argument w = decide_inside w (pick args ts)

  abbrev h : ℕ
  h = after ts s u

  abbrev p : ℕ → Bool
  p = meets args

  abbrev some : Bool
  some = picks a p h (λ g. true)

  -- the returned terms are those at the arguments after
  returned_are : pick args (map (apply s) ts) ≡ rs
  returned_are = pick_applied s ts args ∙ returns.takes

  returned_some : Inside u rs → (x : ℕ) × Listed x args × Occurs u (apply s (term_at ts x))
  returned_some o =
      let (x, l, q) = picked_some (map (apply s) ts) args u (subst (λ (r : List Term). Inside u r) (sym returned_are) o) in
      (x, l, rw applied_at at q)

  some_returned : (x : ℕ) → Listed x args → Occurs u (apply s (term_at ts x)) → Inside u rs
  some_returned x l o =
      subst (λ (r : List Term). Inside u r) returned_are (some_picked (map (apply s) ts) args u x l (rw applied_at o))

  -- Where u is returned, it comes from variables of the arguments only, so their groups meet an argument.
  module _ (found : Inside u rs) where
    meeting : (w i : ℕ) → Occurs w (term_at ts i) → Occurs u (s w) → T (p (described.1 w).g)
    meeting w i o k =
        let not_old : (InArgument u → ⊥) → Inside u ts → ⊥ = λ off inside. ⊎_elim off (λ new. new inside) (caller u found) in
        let (x, l, q) = picked_some ts args w (all_move a ts described s u InArgument in_argument returns.stays not_old w i o k) in
        some_meets args (described.1 w).g x l (((described.1 w).exact x).1 q)

    some_group : T some
    some_group =
        let (x, l, q) = returned_some found in
        let (w, o, k) = occurs_from s u (term_at ts x) q in
        some_picks a p h (λ g. true) (picked a ts described s u p meeting (λ g. true) w x o k tt)

    -- at the arguments it is the group that u has in the returned terms
    returned_held : T (b.has (cut args h))
    returned_held =
        places_held b rs returned u (cut args h)
        (subst (λ (r : List Term). Places r u (cut args h)) returned_are
        (cut_places (map (apply s) ts) args u h (after_places ts s u)))

    made : T (union a p h && (some && b.has (cut args h)))
    made =
        and_pair (union a p h) (some && b.has (cut args h)) (all_union a p h (united a ts described s u p meeting))
        (and_pair some (b.has (cut args h)) some_group returned_held)

  -- Where u is not returned, it comes from no variable of the arguments.
  module _ (missing : Inside u rs → ⊥) where
    none : (w : ℕ) → InArgument w → Occurs u (s w) → ⊥
    none w o k = let (x, l, q) = picked_some ts args w o in missing (some_returned x l (occurs_into s u w (term_at ts x) q k))

    untouched : T (p h) → ⊥
    untouched t = let (x, l, q) = meets_some args h t in missing (some_returned x l ((after_exact ts s u x).0 q))

    kept : T (a.has h && not (p h))
    kept =
        and_pair (a.has h) (not (p h)) (after_held a ts described s u InArgument in_argument returns.stays none) (not_T (p h) untouched)

  back_group : Grouped (backed a args b) (map (apply s) ts) u
  back_group =
      let stay = a.has h && not (p h) in
      let come = union a p h && (some && b.has (cut args h)) in
      record {
        g = h;
        held =
            and_pair (a.has 0) (b.has 0 && (stay || come)) (empty_held a ts described)
            (and_pair (b.has 0) (stay || come) (empty_held b rs returned)
            (⊎_elim (λ found. or_right stay come (made found)) (λ missing. or_left stay come (kept missing)) (decide_inside u rs)));
        exact = after_places ts s u;
      }

pub back_describes : (a : Value) (args : List ℕ) (b : Value) (ts rs : List Term) → Describes a ts → Describes b rs → ((u : ℕ) → Inside u rs → Inside u (pick args ts) ⊎ (Inside u ts → ⊥)) → (s : Subst) → Returns ts args rs s → Describes (backed a args b) (map (apply s) ts)
back_describes a args b ts rs described returned caller s returns =
    (length-map ts (apply s) ∙ described.0, back_group a args b ts rs described returned caller s returns)
