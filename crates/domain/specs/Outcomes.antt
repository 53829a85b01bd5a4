-- What a goal does to a list of terms: the outcomes of an equation, of a call's entry and of its return.
use Rattle.std.specs.Prelude.{◌≡◌, ℕ, ◌+◌, ◌≤◌, ◌⊎◌, List, [], ◌∷◌, ◌++◌, map, length}
use Rattle.domain.specs.Variables.{Listed, Different}
use Rattle.domain.specs.Term.{Term, Subst, Occurs, Inside, apply, terms, term_at, pick}

-- ---- an equation

-- The right side of an equation, with exactly the variables at the places ys: the term at a place, or a functor over
-- the terms at places. Its left side is the term at a place.
pub data Side (ts : List Term) : List ℕ → Term → Type 0 where
  one : (y : ℕ) → Side ts (y ∷ []) (term_at ts y)
  built : (f : ℕ) (ys : List ℕ) → Side ts ys (Term.app f (terms (pick ys ts)))

-- A substitution that makes the two sides equal, moves only variables of the two sides, and brings in only
-- these and variables numbered from n up. Idempotent most general unifiers over the two sides are among them.
pub record Unifies (n : ℕ) (left right : Term) (s : Subst) : Type 0 where
  pub equal : apply s left ≡ apply s right
  pub stays : (u : ℕ) → (Occurs u left → ⊥) → (Occurs u right → ⊥) → s u ≡ Term.var u
  pub brings : (u w : ℕ) → Occurs u left ⊎ Occurs u right → Occurs w (s u) → (Occurs w left ⊎ Occurs w right) ⊎ n ≤ w

-- Of the list ts, after the place x was equated with a side that has the places ys, ts' is left.
pub record Equated (n : ℕ) (ts : List Term) (x : ℕ) (ys : List ℕ) (ts' : List Term) : Type 0 where
  pub right : Term
  pub side : Side ts ys right
  pub s : Subst
  pub unifies : Unifies n (term_at ts x) right s
  pub after : ts' ≡ map (apply s) ts

-- ---- a call's entry

-- Different variables numbered from n up.
pub record Fresh (n : ℕ) (us : List ℕ) : Type 0 where
  pub different : Different us
  pub from : (u : ℕ) → Listed u us → n ≤ u

-- A clause with v variables that is called with the terms ts begins with ts': with ts, and for each further variable
-- with one that occurs nowhere in ts, all different.
pub record Begun (ts : List Term) (v : ℕ) (ts' : List Term) : Type 0 where
  pub us : List ℕ
  pub different : Different us
  pub new : (u : ℕ) → Listed u us → Inside u ts → ⊥
  pub filled : length ts + length us ≡ v
  pub after : ts' ≡ ts ++ map Term.var us

-- ---- a call's return

-- A substitution that takes the argument terms of a call to the terms that it returned, and moves no other
-- variable of the caller's list.
pub record Returns (ts : List Term) (args : List ℕ) (rs : List Term) (s : Subst) : Type 0 where
  pub takes : map (apply s) (pick args ts) ≡ rs
  pub stays : (u : ℕ) → Inside u ts → (Inside u (pick args ts) → ⊥) → s u ≡ Term.var u

-- Of the caller's list ts, after a call with the arguments at the places args returned the terms rs, ts' is left. What
-- is returned holds variables of the arguments, and some that occur nowhere in ts.
pub record Resumed (ts : List Term) (args : List ℕ) (rs ts' : List Term) : Type 0 where
  pub known : (u : ℕ) → Inside u rs → Inside u (pick args ts) ⊎ (Inside u ts → ⊥)
  pub s : Subst
  pub returns : Returns ts args rs s
  pub after : ts' ≡ map (apply s) ts
