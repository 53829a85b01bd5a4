-- `all` over a list of variables: where it may call its closure, and what it answers. Assumes nothing.
use Rattle.std.proofs.Common.{◌≡◌, ℕ, suc, ◌<◌, ◌↔◌, Bool, true, false, T, MatchBool, List, [], ◌∷◌, length, get_or, Iter, Bor, sym, subst, inl, inr, arith}
use Rattle.std.specs.Fn.{Called}
use Rattle.std.specs.Iterator.{CallableAtEachTurn, ChecksAll}
use Rattle.std.specs.List.{AllWithin, HoldsAt}
use Rattle.std.proofs.iter.Yields.{fronts}
use Rattle.std.proofs.lemmas.List.{get_or_read}
use Rattle.std.proofs.lemmas.Iterator.{YieldsList-from_slice, cases_from_all}
use Rattle.std.proofs.lemmas.Iterator.Adapters.{serves_from_places}
use denote.Param.Members.{Mut}
use Rattle.domain.specs.Variables.{Listed}
use Rattle.domain.proofs.Lists.{listed_at}

-- a closure that stays as it is may be called at each of xs where it may be called at each number listed
pub serves_listed : {F : Type 0} {R : F → Bor ℕ → F → Type 0} {Q : F → Bor ℕ → Type 0} {f : F} {s : Iter ℕ} (xs : List ℕ) → s.rest.now ≡ xs → ((x : Bor ℕ) (q : F) → R f x q → q ≡ f) → ((x : Bor ℕ) → Listed x.now xs → Q f x) → CallableAtEachTurn fronts R Q s f
serves_listed xs starts stays each =
    serves_from_places (YieldsList-from_slice xs starts) stays
    (λ x k low is. each x (subst (λ (v : ℕ). Listed v xs) (sym (get_or_read xs k x.now low is 0)) (listed_at xs k low)))

module _ (P : ℕ → Type 0) where
  at_listed : (xs : List ℕ) → AllWithin P xs 0 (length xs) → (x : ℕ) → Listed x xs → P x
  at_listed [] all x l = elim l [ ]
  at_listed (y ∷ xs) all x (inl e) = subst P (sym e) (all 0 0 (omega arith) (omega arith))
  at_listed (y ∷ xs) all x (inr l) = at_listed xs (λ k d low high. all (suc k) d (omega arith) (omega arith)) x l

  answers : (xs : List ℕ) (r : Bool) → MatchBool r (AllWithin P xs 0 (length xs)) ((k : ℕ) × (k < length xs) × HoldsAt (λ x. P x → ⊥) xs k) → T r ↔ ((x : ℕ) → Listed x xs → P x)
  answers xs true h = (λ t. at_listed xs h, λ all. tt)
  answers xs false (k, low, fails) = (λ t. absurd t, λ all. fails 0 (all (get_or xs k 0) (listed_at xs k low)))

  -- where each call answers whether P holds, `all` answers whether it holds of each number listed
  pub all_listed : {F : Type 0} {g : Mut F (Bor ℕ × Unit {0}) Bool} {f : F} {s : Iter ℕ} (u : Iter ℕ) (xs : List ℕ) (r : Bool) → s.rest.now ≡ xs → ChecksAll fronts g s f r u → ((x : Bor ℕ) (q : F) → Called g f (x, tt) true q → (q ≡ f) × P x.now) → ((x : Bor ℕ) (q : F) → Called g f (x, tt) false q → P x.now → ⊥) → T r ↔ ((x : ℕ) → Listed x xs → P x)
  all_listed {f = f} u xs r starts ran passes fails =
      answers xs r (cases_from_all u f r P (λ x. P x → ⊥) ran (YieldsList-from_slice xs starts) passes fails)
