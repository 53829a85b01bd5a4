-- The group of a variable after a substitution that moves some variables only. Assumes nothing.
use Rattle.std.specs.Prelude.{◌≡◌, ℕ, Bool, T, ◌⊎◌, ◌↔◌, List, map}
use Rattle.std.proofs.Common.{sym, subst, ◌∙◌, ⊎_elim}
use Rattle.std.proofs.lemmas.List.{length-map}
use Rattle.domain.specs.Term.{Term, Subst, Occurs, Inside, apply, term_at}
use Rattle.families.specs.Masks.{bit}
use Rattle.rows.specs.Values.{Value}
use Rattle.sharing.specs.Sharing.{Describes}
use Rattle.families.proofs.Masks.{no_bits}
use Rattle.domain.proofs.Terms.{occurs_from, occurs_into, alone_from, alone_into, applied_at, inside_at}
use Rattle.sharing.specs.Laws.Picks.{Places, places, places_exact, places_held, places_below, empty_held, group_below, Picked, United}

-- ---- the group of u after

module _ (ts : List Term) (s : Subst) (u : ℕ) where
  pub after : ℕ
  after = places (map (apply s) ts) u

  pub after_places : Places (map (apply s) ts) u after
  unfolding after
  after_places = places_exact (map (apply s) ts) u

  pub after_exact : (i : ℕ) → T (bit after i) ↔ Occurs u (apply s (term_at ts i))
  after_exact i = (λ t. rw applied_at at ((after_places i).0 t), λ o. (after_places i).1 (rw applied_at o))

  -- the variables that u comes from
  pub origin : (i : ℕ) → T (bit after i) → (w : ℕ) × Occurs w (term_at ts i) × Occurs u (s w)
  origin i t = occurs_from s u (term_at ts i) ((after_exact i).0 t)

-- ---- which groups it comes from

module _ (a : Value) (ts : List Term) (described : Describes a ts) (s : Subst) (u : ℕ) where
  abbrev h : ℕ
  h = after ts s u

  -- Where the groups of the variables that u comes from pass p, they make up the group of u.
  module _ (p : ℕ → Bool) (pass : (w i : ℕ) → Occurs w (term_at ts i) → Occurs u (s w) → T (p (described.1 w).g)) where
    pub picked : (q : ℕ → Bool) (w i : ℕ) → Occurs w (term_at ts i) → Occurs u (s w) → T (q (described.1 w).g) → Picked a p h q
    picked q w i o k t = record {
      g = (described.1 w).g;
      below = group_below a ts described w;
      held = (described.1 w).held;
      passes = pass w i o k;
      inner = λ j l b. (after_exact ts s u j).1 (occurs_into s u w (term_at ts j) (((described.1 w).exact j).0 b) k);
      also = t;
    }

    pub united : United a p h
    united = record {
      below = places_below (map (apply s) ts) a.width u h (length-map ts (apply s) ∙ described.0) (after_places ts s u);
      covered = λ i l b. let (w, o, k) = origin ts s u i b in picked (λ g. bit g i) w i o k (((described.1 w).exact i).1 o);
    }

  -- Moves w: s may move w. It leaves the other variables of ts alone.
  module _ (Moves : ℕ → Type 0) (decide : (w : ℕ) → Moves w ⊎ (Moves w → ⊥))
      (stays : (w : ℕ) → Inside w ts → (Moves w → ⊥) → s w ≡ Term.var w) where
    itself : (w i : ℕ) → Occurs w (term_at ts i) → Occurs u (s w) → (Moves w → ⊥) → u ≡ w
    itself w i o k still = alone_from s u w (stays w (inside_at ts i w o) still) k

    -- Where u is not a variable of ts that stays, it comes from variables that move.
    pub all_move : ((Moves u → ⊥) → Inside u ts → ⊥) → (w i : ℕ) → Occurs w (term_at ts i) → Occurs u (s w) → Moves w
    all_move new w i o k =
        ⊎_elim (λ m. m)
        (λ still.
        let e = itself w i o k still in
        absurd (new (λ m. still (subst Moves e m)) (inside_at ts i u (subst (λ (z : ℕ). Occurs z (term_at ts i)) (sym e) o))))
        (decide w)

    -- Where u comes from no variable that moves, it stands where it stood, or nowhere any more.
    module _ (none : (w : ℕ) → Moves w → Occurs u (s w) → ⊥) where
      only_itself : (w i : ℕ) → Occurs w (term_at ts i) → Occurs u (s w) → u ≡ w
      only_itself w i o k = itself w i o k (λ m. none w m k)

      nowhere : Moves u → (i : ℕ) → T (bit h i) → ⊥
      nowhere m i b =
          let (w, o, k) = origin ts s u i b in
          none w (subst Moves (only_itself w i o k) m) k

      unmoved : (Moves u → ⊥) → Places ts u h
      unmoved still i = (
        λ b. let (w, o, k) = origin ts s u i b in subst (λ (z : ℕ). Occurs z (term_at ts i)) (sym (only_itself w i o k)) o,
        λ o. (after_exact ts s u i).1 (alone_into s u (stays u (inside_at ts i u o) still) (term_at ts i) o),
      )

      pub after_held : T (a.has h)
      after_held =
          ⊎_elim (λ m. subst (λ (g : ℕ). T (a.has g)) (sym (no_bits h (nowhere m))) (empty_held a ts described))
          (λ still. places_held a ts described u h (unmoved still))
          (decide u)
