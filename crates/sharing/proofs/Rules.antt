-- The functions are what the rules of specs/Rules say. Assumes nothing.
use Rattle.std.proofs.Common.{◌≡◌, ℕ, ◌^◌, ◌<◌, ◌≤◌, Bool, true, not, ◌&&◌, ◌||◌, T, eqb, leb, ◌⊎◌, List, sym, refl, subst, inl, inr, ⊎_elim, le→leb, eqb→eq, leb→le, T_not}
use lib.Dec.{eqb_refl, not_T}
use Rattle.std.proofs.lemmas.Bool.{cases_lt}
use Rattle.domain.specs.Variables.{Listed}
use Rattle.families.specs.Masks.{bit, cut, any, meets, within}
use Rattle.rows.specs.Values.{Value, Fits}
use Rattle.families.specs.Unions.{together, Selection, One}
use Rattle.sharing.specs.Sharing.{touches, picks, union, tied, tied_has, entered, entered_has, backed, backed_has}
use Rattle.sharing.specs.Rules.{Touched, Passed, TieRule, EnterRule, BackRule}
use Rattle.domain.proofs.Booleans.{and_split, and_pair, or_split, or_left, or_right}
use Rattle.families.proofs.Tests.{any_some, some_any, within_at, at_within}
use Rattle.families.proofs.Masks.{same_bits, below_bits}
use Rattle.families.proofs.Unions.{together_one, one_together, together_below, members, member_passes, passes_member}
use Rattle.sharing.specs.Laws.Picks.{Picked, picks_some, some_picks, United, union_all, all_union}

-- ---- a union of all is a union of some

module _ (a : Value) (p : ℕ → Bool) (h : ℕ) where
  pub carrier : United a p h → (i : ℕ) → T (bit h i) → Picked a p h (λ g. bit g i)
  carrier k i b =
      ⊎_elim (λ low. k.covered i low b) (λ high. absurd (below_bits a.width h i k.below high b)) (cases_lt i a.width)

  -- a group of a that passes
  abbrev Passing : ℕ → Type 0
  Passing g = T (a.has g) × T (p g)

  -- the groups that pass and lie within h
  inner : ℕ → Bool
  inner g = a.has g && (p g && within a.width g h)

  all_inner : List ℕ
  all_inner = members (2 ^ a.width) inner

  inner_facts : (g : ℕ) → Listed g all_inner → (g < 2 ^ a.width) × T (a.has g) × T (p g) × T (within a.width g h)
  unfolding all_inner inner
  inner_facts g l =
      let (below, t) = member_passes (2 ^ a.width) inner g l in
      let (held, s) = and_split (a.has g) (p g && within a.width g h) t in
      let (passes, w) = and_split (p g) (within a.width g h) s in
      (below, held, passes, w)

  picked_inner : (q : ℕ → Bool) → Picked a p h q → One q all_inner
  unfolding all_inner inner
  picked_inner q k =
      let g = k.g in (
        g,
        passes_member (2 ^ a.width) inner g k.below
            (and_pair (a.has g) (p g && within a.width g h) k.held
            (and_pair (p g) (within a.width g h) k.passes (at_within a.width g h k.inner))),
        k.also,
      )

  pub selection : United a p h → Selection Passing h
  selection k = record {
    sets = all_inner;
    each = λ g l. let f = inner_facts g l in (f.1, f.2);
    whole = same_bits (together all_inner) h to from;
  }
    where
      to : (i : ℕ) → T (bit (together all_inner) i) → T (bit h i)
      to i t =
          let (g, l, b) = together_one all_inner i t in
          let f = inner_facts g l in
          ⊎_elim (λ low. within_at a.width g h f.3 i low b) (λ high. absurd (below_bits a.width g i f.0 high b)) (cases_lt i a.width)

      from : (i : ℕ) → T (bit h i) → T (bit (together all_inner) i)
      from i b = let (g, l, t) = picked_inner (λ g. bit g i) (carrier k i b) in one_together all_inner g i l t

  module _ (fits : Fits a) (s : Selection Passing h) where
    selected_picked : (q : ℕ → Bool) → One q s.sets → Picked a p h q
    selected_picked q (g, l, t) = record {
      g = g;
      below = fits g (s.each g l).0;
      held = (s.each g l).0;
      passes = (s.each g l).1;
      inner = λ i low b. subst (λ (k : ℕ). T (bit k i)) s.whole (one_together s.sets g i l b);
      also = t;
    }

    pub selected_united : United a p h
    selected_united = record {
      below =
          subst (λ (k : ℕ). k < 2 ^ a.width) s.whole
          (together_below s.sets a.width (λ g l. fits g (s.each g l).0));
      covered = λ i low b.
          selected_picked (λ g. bit g i) (together_one s.sets i (subst (λ (k : ℕ). T (bit k i)) (sym s.whole) b));
    }

-- ---- tie

module _ (a : Value) (fits : Fits a) (x : ℕ) (ys : List ℕ) (h : ℕ) where
  abbrev TiedSo : Type 0
  TiedSo =
      (T (a.has h) × (T (bit h x) → ⊥) × (T (meets ys h) → ⊥))
      ⊎ ((s : Selection (Touched a x ys) h) × One (λ g. bit g x) s.sets × One (meets ys) s.sets)

  abbrev touching : ℕ → Bool
  touching = touches x ys

  abbrev with_x : Bool
  with_x = picks a touching h (λ g. bit g x)

  abbrev with_ys : Bool
  with_ys = picks a touching h (meets ys)

  abbrev untouched : Bool
  untouched = a.has h && not (touching h)

  abbrev tied_up : Bool
  tied_up = union a touching h && (with_x && with_ys)

  tied_to : T (tied_has a x ys h) → TiedSo
  unfolding selection
  tied_to t =
      ⊎_elim
      (λ k.
      let (held, off) = and_split (a.has h) (not (touching h)) k in
      inl (held, λ b. T_not (touching h) off (or_left (bit h x) (meets ys h) b), λ m. T_not (touching h) off (or_right (bit h x) (meets ys h) m)))
      (λ k.
      let (whole, rest) = and_split (union a touching h) (with_x && with_ys) k in
      let (some_x, some_ys) = and_split with_x with_ys rest in
      inr (
        selection a touching h (union_all a touching h whole),
        picked_inner a touching h (λ g. bit g x) (picks_some a touching h (λ g. bit g x) some_x),
        picked_inner a touching h (meets ys) (picks_some a touching h (meets ys) some_ys),
      ))
      (or_split untouched tied_up t)

  tied_from : TiedSo → T (tied_has a x ys h)
  tied_from (inl (held, lacks, misses)) =
      or_left untouched tied_up
      (and_pair (a.has h) (not (touching h)) held (not_T (touching h) (λ t. ⊎_elim lacks misses (or_split (bit h x) (meets ys h) t))))
  tied_from (inr (s, one_x, one_ys)) =
      or_right untouched tied_up
      (and_pair (union a touching h) (with_x && with_ys) (all_union a touching h (selected_united a touching h fits s))
      (and_pair with_x with_ys (some_picks a touching h (λ g. bit g x) (selected_picked a touching h fits s (λ g. bit g x) one_x))
      (some_picks a touching h (meets ys) (selected_picked a touching h fits s (meets ys) one_ys))))

pub tied_rule : (a : Value) → Fits a → (x : ℕ) (ys : List ℕ) → TieRule a x ys (tied a x ys)
tied_rule a fits x ys = record { width = refl; sets = λ h. (tied_to a fits x ys h, tied_from a fits x ys h) }

-- ---- enter

module _ (a : Value) (v h : ℕ) where
  abbrev EnteredSo : Type 0
  EnteredSo = T (a.has 0) × (T (a.has h) ⊎ ((i : ℕ) × (a.width ≤ i) × (i < v) × (h ≡ 2 ^ i)))

  abbrev new_alone : ℕ → Bool
  new_alone i = leb a.width i && eqb h (2 ^ i)

  entered_to : T (entered_has a v h) → EnteredSo
  entered_to t =
      let (empty, s) = and_split (a.has 0) (a.has h || any v new_alone) t in (
        empty,
        ⊎_elim inl
            (λ k.
            let (i, l, r) = any_some v new_alone k in
            let (m, e) = and_split (leb a.width i) (eqb h (2 ^ i)) r in
            inr (i, leb→le a.width i m, l, eqb→eq h (2 ^ i) e))
            (or_split (a.has h) (any v new_alone) s),
      )

  entered_from : EnteredSo → T (entered_has a v h)
  entered_from (empty, k) =
      and_pair (a.has 0) (a.has h || any v new_alone) empty
      (⊎_elim (or_left (a.has h) (any v new_alone))
      (λ n.
      let (i, m, l, e) = n in
      or_right (a.has h) (any v new_alone)
      (some_any v new_alone i l
      (and_pair (leb a.width i) (eqb h (2 ^ i)) (le→leb a.width i m) (subst (λ (j : ℕ). T (eqb h j)) e (eqb_refl h)))))
      k)

pub entered_rule : (a : Value) (v : ℕ) → EnterRule a v (entered a v)
entered_rule a v = record { width = refl; sets = λ h. (entered_to a v h, entered_from a v h) }

-- ---- back

module _ (a : Value) (fits : Fits a) (args : List ℕ) (b : Value) (h : ℕ) where
  abbrev BackedSo : Type 0
  BackedSo =
      T (a.has 0) × T (b.has 0)
      × ((T (a.has h) × (T (meets args h) → ⊥))
      ⊎ ((s : Selection (Passed a args) h) × One (λ g. true) s.sets × T (b.has (cut args h))))

  abbrev passed : ℕ → Bool
  passed = meets args

  abbrev some : Bool
  some = picks a passed h (λ g. true)

  abbrev stays : Bool
  stays = a.has h && not (passed h)

  abbrev comes : Bool
  comes = union a passed h && (some && b.has (cut args h))

  backed_to : T (backed_has a args b h) → BackedSo
  unfolding selection
  backed_to t =
      let (empty_a, t₁) = and_split (a.has 0) (b.has 0 && (stays || comes)) t in
      let (empty_b, t₂) = and_split (b.has 0) (stays || comes) t₁ in (
        empty_a,
        empty_b,
        ⊎_elim
            (λ k. let (held, off) = and_split (a.has h) (not (passed h)) k in inl (held, T_not (passed h) off))
            (λ k.
            let (whole, rest) = and_split (union a passed h) (some && b.has (cut args h)) k in
            let (one, held) = and_split some (b.has (cut args h)) rest in
            inr (selection a passed h (union_all a passed h whole), picked_inner a passed h (λ g. true) (picks_some a passed h (λ g. true) one), held))
            (or_split stays comes t₂),
      )

  backed_from : BackedSo → T (backed_has a args b h)
  backed_from (empty_a, empty_b, ways) =
      and_pair (a.has 0) (b.has 0 && (stays || comes)) empty_a
      (and_pair (b.has 0) (stays || comes) empty_b
      (⊎_elim
      (λ k. or_left stays comes (and_pair (a.has h) (not (passed h)) k.0 (not_T (passed h) k.1)))
      (λ k.
      or_right stays comes
      (and_pair (union a passed h) (some && b.has (cut args h)) (all_union a passed h (selected_united a passed h fits k.0))
      (and_pair some (b.has (cut args h)) (some_picks a passed h (λ g. true) (selected_picked a passed h fits k.0 (λ g. true) k.1)) k.2)))
      ways))

pub backed_rule : (a : Value) → Fits a → (args : List ℕ) (b : Value) → BackRule a args b (backed a args b)
backed_rule a fits args b = record { width = refl; sets = λ h. (backed_to a fits args b h, backed_from a fits args b h) }
