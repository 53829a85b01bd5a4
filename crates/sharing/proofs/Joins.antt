-- Tie and back, by the union of a selection alone: what it has, one of the groups has. Assumes nothing.
use Rattle.std.proofs.Common.{◌≡◌, ℕ, ◌^◌, ◌≤◌, Bool, true, ◌&&◌, T, List, sym, subst, ⊎_elim, arith, pow_mono}
use Rattle.std.proofs.lemmas.Bool.{cases_lt}
use Rattle.domain.specs.Variables.{widest}
use Rattle.domain.proofs.Booleans.{and_split, and_pair, same_test}
use Rattle.families.specs.declared.family.Family.{Family}
use Rattle.families.specs.Families.{AllUnions}
use Rattle.families.specs.Masks.{bit, meets}
use Rattle.families.specs.Words.{holds, sets}
use Rattle.families.proofs.Masks.{below_bits}
use Rattle.families.proofs.Tests.{meets_some, some_meets}
use Rattle.families.proofs.Unions.{selection_map}
use Rattle.rows.specs.Values.{Value, Fits}
use Rattle.sharing.specs.Sharing.{picks, union}
use Rattle.sharing.specs.Laws.Picks.{Picked, picks_some, some_picks, United, union_all, all_union}
use Rattle.sharing.proofs.Rules.{carrier, selection, selected_united}

-- ---- the unions of a family

pub unions_are : (a : Value) → Fits a → a.width ≤ widest → (p : ℕ → Bool) (some unions : Family) → ((g : ℕ) → holds some g ≡ (a.has g && p g)) →
    AllUnions some unions → (h : ℕ) → holds unions h ≡ union a p h
unions_are a fits narrow p some unions some_is unions_is h =
    same_test (holds unions h) (union a p h)
    (λ t.
    all_union a p h
    (selected_united a p h fits
    (selection_map h (λ g s. and_split (a.has g) (p g) (subst T (some_is g) s)) ((unions_is h).0 t).0)))
    (λ t.
    let k = union_all a p h t in
    let low = k.below in
    let room : 2 ^ a.width ≤ sets = pow_mono narrow in
    let whole = selection_map h (λ g k. subst T (sym (some_is g)) (and_pair (a.has g) (p g) k.0 k.1)) (selection a p h k) in
    (unions_is h).1 (whole, omega arith))

-- ---- what a union has, one of its groups has

module _ (a : Value) (p : ℕ → Bool) (h : ℕ) where
  carried : {q : ℕ → Bool} (k : Picked a p h q) (i : ℕ) → T (bit k.g i) → T (bit h i)
  carried k i b =
      ⊎_elim (λ low. k.inner i low b) (λ high. absurd (below_bits a.width k.g i k.below high b)) (cases_lt i a.width)

  carried_meets : {q : ℕ → Bool} (k : Picked a p h q) (ys : List ℕ) → T (meets ys k.g) → T (meets ys h)
  carried_meets k ys t = let (y, l, b) = meets_some ys k.g t in some_meets ys h y l (carried k y b)

  carrier_meets : United a p h → (ys : List ℕ) → T (meets ys h) → Picked a p h (meets ys)
  carrier_meets u ys t =
      let (y, l, b) = meets_some ys h t in
      let k = carrier a p h u y b in
      record { g = k.g; below = k.below; held = k.held; passes = k.passes; inner = k.inner; also = some_meets ys k.g y l k.also }

  pub some_has : (x : ℕ) → United a p h → picks a p h (λ g. bit g x) ≡ bit h x
  some_has x u =
      same_test (picks a p h (λ g. bit g x)) (bit h x)
      (λ t. let k = picks_some a p h (λ g. bit g x) t in carried k x k.also)
      (λ b. some_picks a p h (λ g. bit g x) (carrier a p h u x b))

  pub some_meets_ys : (ys : List ℕ) → United a p h → picks a p h (meets ys) ≡ meets ys h
  some_meets_ys ys u =
      same_test (picks a p h (meets ys)) (meets ys h)
      (λ t. let k = picks_some a p h (meets ys) t in carried_meets k ys k.also)
      (λ t. some_picks a p h (meets ys) (carrier_meets u ys t))

-- one group or more, where each that counts meets an argument
pub some_at_all : (a : Value) (args : List ℕ) (h : ℕ) → United a (meets args) h → picks a (meets args) h (λ g. true) ≡ meets args h
some_at_all a args h u =
    let p = meets args in
    same_test (picks a p h (λ g. true)) (meets args h)
    (λ t. let k = picks_some a p h (λ g. true) t in carried_meets a p h k args k.passes)
    (λ t.
    let k = carrier_meets a p h u args t in
    some_picks a p h (λ g. true) (record { g = k.g; below = k.below; held = k.held; passes = k.passes; inner = k.inner; also = tt }))
