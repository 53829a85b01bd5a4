-- Terms without variables: a test for it, substitutions one after the other, and the sides of an equation. Assumes nothing.
use Rattle.std.specs.Prelude.{◌≡◌, ℕ, Bool, true, false, cond, ◌&&◌, T, List, [], ◌∷◌, map, ◌==◌, refl}
use Rattle.std.proofs.Common.{ap, ap₂, subst, ◌∙◌, inl, inr, ⊎_elim}
use Rattle.std.proofs.Math.Dec.{eqb_refl}
use Rattle.domain.specs.Variables.{Listed}
use Rattle.domain.specs.Term.{Term, Terms, Subst, Occurs, Among, Closed, apply, applies, terms, term_at, pick}
use Rattle.domain.specs.Term.Term.{var, app}
use Rattle.domain.specs.Term.Terms.{end, arg}
use Rattle.domain.specs.Outcomes.{Side}
use Rattle.domain.specs.Outcomes.Side.{one, built}
use Rattle.domain.proofs.Booleans.{and_split, and_pair}
use Rattle.domain.proofs.Terms.{occurs_into, applied_at}

-- ---- a test

abbrev mutual
  pub closed : Term → Bool
  closed (var v) = false
  closed (app f ts) = all_closed ts

  all_closed : Terms → Bool
  all_closed end = true
  all_closed (arg t ts) = closed t && all_closed ts

mutual
  pub closed_fact : (t : Term) → T (closed t) → Closed t
  closed_fact (var v) h u o = h
  closed_fact (app f ts) h u o = all_closed_fact ts h u o

  all_closed_fact : (ts : Terms) → T (all_closed ts) → (u : ℕ) → Among u ts → ⊥
  all_closed_fact end h u o = o
  all_closed_fact (arg t ts) h u o =
      let (here, rest) = and_split (closed t) (all_closed ts) h in
      ⊎_elim (closed_fact t here u) (all_closed_fact ts rest u) o

mutual
  pub fact_closed : (t : Term) → Closed t → T (closed t)
  fact_closed (var v) c = c v refl
  fact_closed (app f ts) c = fact_all_closed ts c

  fact_all_closed : (ts : Terms) → ((u : ℕ) → Among u ts → ⊥) → T (all_closed ts)
  fact_all_closed end c = tt
  fact_all_closed (arg t ts) c =
      and_pair (closed t) (all_closed ts) (fact_closed t (λ u o. c u (inl o))) (fact_all_closed ts (λ u o. c u (inr o)))

-- ---- substitutions

-- s, then r
abbrev pub chain : Subst → Subst → Subst
chain r s = λ v. apply r (s v)

mutual
  pub apply_chain : (r s : Subst) (t : Term) → apply r (apply s t) ≡ apply (chain r s) t
  apply_chain r s (var v) = refl
  apply_chain r s (app f ts) = ap {B = Term} (app f) (applies_chain r s ts)

  applies_chain : (r s : Subst) (ts : Terms) → applies r (applies s ts) ≡ applies (chain r s) ts
  applies_chain r s end = refl
  applies_chain r s (arg t ts) = ap₂ {C = Terms} arg (apply_chain r s t) (applies_chain r s ts)

mutual
  pub apply_none : (t : Term) → apply var t ≡ t
  apply_none (var v) = refl
  apply_none (app f ts) = ap {B = Term} (app f) (applies_none ts)

  applies_none : (ts : Terms) → applies var ts ≡ ts
  applies_none end = refl
  applies_none (arg t ts) = ap₂ {C = Terms} arg (apply_none t) (applies_none ts)

-- every variable becomes a constant
abbrev pub nothing_left : Subst
nothing_left v = app 0 end

mutual
  pub nothing_closed : (t : Term) → Closed (apply nothing_left t)
  nothing_closed (var v) u o = o
  nothing_closed (app f ts) u o = nothing_all_closed ts u o

  nothing_all_closed : (ts : Terms) (u : ℕ) → Among u (applies nothing_left ts) → ⊥
  nothing_all_closed end u o = o
  nothing_all_closed (arg t ts) u o = ⊎_elim (nothing_closed t u) (nothing_all_closed ts u) o

-- u stays, and every other variable becomes a constant
abbrev pub only : ℕ → Subst
only u v = cond (v == u) (var v) (app 0 end)

pub only_keeps : (u : ℕ) (t : Term) → Occurs u t → Occurs u (apply (only u) t)
only_keeps u t o = occurs_into (only u) u u t o (kept (u == u) (eqb_refl u))
  where
    kept : (b : Bool) → T b → Occurs u (cond b (var u) (app 0 end))
    kept true t = refl
    kept false t = t

-- ---- by places

pub applied_chain : (r s : Subst) (ts : List Term) (i : ℕ) → apply r (term_at (map (apply s) ts) i) ≡ apply (chain r s) (term_at ts i)
applied_chain r s ts i = ap (apply r) (applied_at s ts i) ∙ apply_chain r s (term_at ts i)

-- ---- the right side of an equation is closed where the terms at its places are

among_each : (s : Subst) (ts : List Term) (ys : List ℕ) → ((u : ℕ) → Among u (applies s (terms (pick ys ts))) → ⊥) → (y : ℕ) → Listed y ys → Closed (apply s (term_at ts y))
among_each s ts [] c y l u o = elim l [ ]
among_each s ts (z ∷ ys) c y (inl e) u o = c u (inl (subst (λ (k : ℕ). Occurs u (apply s (term_at ts k))) e o))
among_each s ts (z ∷ ys) c y (inr l) u o = among_each s ts ys (λ w h. c w (inr h)) y l u o

each_among : (s : Subst) (ts : List Term) (ys : List ℕ) → ((y : ℕ) → Listed y ys → Closed (apply s (term_at ts y))) → (u : ℕ) → Among u (applies s (terms (pick ys ts))) → ⊥
each_among s ts [] f u o = o
each_among s ts (z ∷ ys) f u (inl o) = f z (inl refl) u o
each_among s ts (z ∷ ys) f u (inr o) = each_among s ts ys (λ y l. f y (inr l)) u o

pub side_each : (s : Subst) (ts : List Term) {ys : List ℕ} {right : Term} → Side ts ys right → Closed (apply s right) → (y : ℕ) → Listed y ys → Closed (apply s (term_at ts y))
side_each s ts (one z) c y l u o = ⊎_elim (λ e. c u (subst (λ (k : ℕ). Occurs u (apply s (term_at ts k))) e o)) (λ n. n) l
side_each s ts (built f ys) c y l u o = among_each s ts ys c y l u o

pub each_side : (s : Subst) (ts : List Term) {ys : List ℕ} {right : Term} → Side ts ys right → ((y : ℕ) → Listed y ys → Closed (apply s (term_at ts y))) → Closed (apply s right)
each_side s ts (one z) f = f z (inl refl)
each_side s ts (built g ys) f = each_among s ts ys f
