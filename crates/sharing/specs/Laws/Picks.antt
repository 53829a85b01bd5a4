-- The mask of a variable's places; what `picks` and `union` test. Assumes nothing.
use Rattle.std.specs.Prelude.{◌≡◌, ℕ, ◌^◌, ◌<◌, Bool, not, ◌&&◌, ◌||◌, T, ◌↔◌, List, map, length, nat_lt, slice_index}
use Rattle.std.proofs.Common.{subst, ◌∙◌, arith, ltb→lt, lt→ltb}
use Rattle.std.proofs.Math.ListN
use Rattle.std.proofs.lemmas.List.{get_or-map, length-map}
use Rattle.domain.specs.Term.{Term, Occurs, term_at, pick}
use Rattle.domain.specs.Term.Term.{app}
use Rattle.domain.specs.Term.Terms.{end}
use Rattle.families.specs.Masks.{bit, pack, cut, all, within}
use Rattle.rows.specs.Values.{Value}
use Rattle.sharing.specs.Sharing.{Describes, picks, union}
use Rattle.domain.proofs.Booleans.{and_split, and_pair, implies, implied}
use Rattle.families.proofs.Tests.{any_some, some_any, all_each, each_all, within_at, at_within}
use Rattle.families.proofs.Masks.{same_bits, zero_bits, bits_below, bit_pack, bit_cut}
use Rattle.domain.proofs.Terms.{occurs, occurs_fact, fact_occurs, inside_at, place_below, some_above}

-- ---- the places of a variable

-- g is the mask of the places whose terms hold u
abbrev pub Places : List Term → ℕ → ℕ → Type 0
Places ts u g = (i : ℕ) → T (bit g i) ↔ Occurs u (term_at ts i)

pub places : List Term → ℕ → ℕ
places ts u = pack (map (occurs u) ts)

pub places_exact : (ts : List Term) (u : ℕ) → Places ts u (places ts u)
unfolding places
places_exact ts u i =
    let e : bit (pack (map (occurs u) ts)) i ≡ occurs u (term_at ts i) =
    bit_pack (map (occurs u) ts) i ∙ ListN.get_or-map (occurs u) ts i (app 0 end) in
    (λ t. occurs_fact u (term_at ts i) (rw e at t), λ o. rw e (fact_occurs u (term_at ts i) o))

pub places_one : (ts : List Term) (u g h : ℕ) → Places ts u g → Places ts u h → g ≡ h
places_one ts u g h p q = same_bits g h (λ i t. (q i).1 ((p i).0 t)) (λ i t. (p i).1 ((q i).0 t))

pub places_below : (ts : List Term) (n u g : ℕ) → length ts ≡ n → Places ts u g → g < 2 ^ n
places_below ts n u g e p = bits_below n g (λ i l t. let m = place_below ts i u ((p i).0 t) in omega arith)

module _ (a : Value) (ts : List Term) (described : Describes a ts) where
  pub places_held : (u g : ℕ) → Places ts u g → T (a.has g)
  places_held u g p =
      let k = described.1 u in
      subst (λ (h : ℕ). T (a.has h)) (places_one ts u k.g g k.exact p) k.held

  -- some variable occurs nowhere
  pub empty_held : T (a.has 0)
  empty_held =
      let (n, above) = some_above ts in
      places_held n 0 (λ i. (λ t. absurd (zero_bits i t), λ o. let l = above n (inside_at ts i n o) in absurd (omega arith)))

  pub group_below : (u : ℕ) → (described.1 u).g < 2 ^ a.width
  group_below u = places_below ts a.width u (described.1 u).g described.0 (described.1 u).exact

-- ---- the places of a picked list

pub cut_places : (ts : List Term) (xs : List ℕ) (u g : ℕ) → Places ts u g → Places (pick xs ts) u (cut xs g)
cut_places ts xs u g p i = (
  λ t. let (l, b) = (bit_cut xs g i).0 t in rw (picked l) ((p (slice_index xs i)).0 b),
  λ o.
      let e = length-map xs (term_at ts) in
      let m = place_below (pick xs ts) i u o in
      let l : i < length xs = omega arith in
      (bit_cut xs g i).1 (l, (p (slice_index xs i)).1 (rw (picked l) at o)),
)
  where
    picked : i < length xs → term_at (pick xs ts) i ≡ term_at ts (slice_index xs i)
    picked = get_or-map (term_at ts) xs i 0 (app 0 end)

-- ---- unions

-- a group of a that passes p, lies within h and passes q
pub record Picked (a : Value) (p : ℕ → Bool) (h : ℕ) (q : ℕ → Bool) : Type 0 where
  pub g : ℕ
  pub below : g < 2 ^ a.width
  pub held : T (a.has g)
  pub passes : T (p g)
  pub inner : (i : ℕ) → i < a.width → T (bit g i) → T (bit h i)
  pub also : T (q g)

module _ (a : Value) (p : ℕ → Bool) (h : ℕ) where
  pub picks_some : (q : ℕ → Bool) → T (picks a p h q) → Picked a p h q
  picks_some q t =
      let (g, l, s) = any_some (2 ^ a.width) (λ g. a.has g && (p g && (within a.width g h && q g))) t in
      let (t₁, s₁) = and_split (a.has g) (p g && (within a.width g h && q g)) s in
      let (t₂, s₂) = and_split (p g) (within a.width g h && q g) s₁ in
      let (t₃, t₄) = and_split (within a.width g h) (q g) s₂ in
      record { g = g; below = l; held = t₁; passes = t₂; inner = within_at a.width g h t₃; also = t₄ }

  pub some_picks : (q : ℕ → Bool) → Picked a p h q → T (picks a p h q)
  some_picks q k =
      let g = k.g in
      some_any (2 ^ a.width) (λ g. a.has g && (p g && (within a.width g h && q g))) g k.below
      (and_pair (a.has g) (p g && (within a.width g h && q g)) k.held
      (and_pair (p g) (within a.width g h && q g) k.passes
      (and_pair (within a.width g h) (q g) (at_within a.width g h k.inner) k.also)))

  pub record United : Type 0 where
    pub below : h < 2 ^ a.width
    pub covered : (i : ℕ) → i < a.width → T (bit h i) → Picked a p h (λ g. bit g i)

  pub union_all : T (union a p h) → United
  union_all t =
      let test : ℕ → Bool = λ i. not (bit h i) || picks a p h (λ g. bit g i) in
      let (t₁, t₂) = and_split (nat_lt h (2 ^ a.width)) (all a.width test) t in
      record {
        below = ltb→lt h (2 ^ a.width) t₁;
        covered = λ i l b. picks_some (λ g. bit g i) (implies (bit h i) (picks a p h (λ g. bit g i)) (all_each a.width test t₂ i l) b);
      }

  pub all_union : United → T (union a p h)
  all_union k =
      let test : ℕ → Bool = λ i. not (bit h i) || picks a p h (λ g. bit g i) in
      and_pair (nat_lt h (2 ^ a.width)) (all a.width test) (lt→ltb h (2 ^ a.width) k.below)
      (each_all a.width test
      (λ i l. implied (bit h i) (picks a p h (λ g. bit g i)) (λ b. some_picks (λ g. bit g i) (k.covered i l b))))
