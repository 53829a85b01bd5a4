-- The verdicts are exact: a model that speaks against one is that of some described list. Assumes nothing.
use Rattle.std.specs.Prelude.{◌≡◌, ℕ, ◌^◌, ◌<◌, ◌≤◌, Bool, true, false, T, ◌⊎◌, ◌↔◌, List, refl}
use Rattle.std.proofs.Common.{sym, subst, inl, inr, ⊎_elim, arith}
use Rattle.std.proofs.lemmas.Bool.{cases_lt}
use Rattle.domain.specs.Term.{Term, Subst, Occurs, Closed, apply, term_at}
use Rattle.domain.specs.Term.Term.{var, app}
use Rattle.domain.specs.Term.Terms.{end}
use Rattle.domain.specs.Model.{AlwaysGround, AlwaysApart}
use Rattle.families.specs.Masks.{bit, whole}
use Rattle.rows.specs.Cores.{Full}
use Rattle.rows.specs.Rows.{Cored}
use Rattle.rows.specs.Values.{Value, Fits}
use Rattle.formulas.specs.Formulas.{Grounded, Modelled, Describes, Ground, Apart, formulas}
use Rattle.domain.proofs.Booleans.{tested}
use Rattle.domain.proofs.Terms.{place_below}
use Rattle.families.proofs.Spread.{spread, length_spread, spread_at}
use Rattle.families.proofs.Masks.{below_bits}
use Rattle.families.proofs.Ranges.{bit_whole}
use Rattle.formulas.specs.Laws.Terms.{closed, closed_fact, fact_closed, apply_none, only, only_keeps}

-- ---- the verdicts hold

-- under no substitution at all
pub ground_holds : (a : Value) (x : ℕ) → Ground a x → AlwaysGround formulas a x
ground_holds a x known ts described =
    let k = described.1 var in
    subst (λ (t : Term). Closed t) (apply_none (term_at ts x)) ((k.exact x).0 (known k.g k.held)).1

-- under the substitution that leaves the shared variable alone
pub apart_holds : (a : Value) (x y : ℕ) → Apart a x y → AlwaysApart formulas a x y
apart_holds a x y apart ts described u o p =
    let k = described.1 (only u) in
    ⊎_elim (λ b. ((k.exact x).0 b).1 u (only_keeps u (term_at ts x) o)) (λ b. ((k.exact y).0 b).1 u (only_keeps u (term_at ts y) p))
    (apart k.g k.held)

-- ---- past the width, where a list is read as a constant

pub always_past : (a : Value) (x : ℕ) → a.width ≤ x → AlwaysGround formulas a x
always_past a x past ts described u o =
    let l = place_below ts x u o in
    let e = described.0 in
    absurd (omega arith)

pub apart_past : (a : Value) (x y : ℕ) → a.width ≤ x ⊎ a.width ≤ y → AlwaysApart formulas a x y
apart_past a x y past ts described u o p =
    ⊎_elim (λ l. always_past a x l ts described u o) (λ l. always_past a y l ts described u p) past

-- ---- the list of a model: a constant at its places, variable 0 at the others

abbrev spot : Bool → Term
spot true = app 0 end
spot false = var 0

abbrev row : ℕ → ℕ → List Term
row = spread spot

row_at : (n g i : ℕ) → i < n → term_at (row n g) i ≡ spot (bit g i)
row_at = spread_at spot (app 0 end)

spot_constant : (s : Subst) (b : Bool) → T b → Closed (apply s (spot b))
spot_constant s true t u o = o
spot_constant s false t u o = elim t [ ]

spot_closed : (s : Subst) (b : Bool) → Closed (s 0) → Closed (apply s (spot b))
spot_closed s true c u o = o
spot_closed s false c u o = c u o

-- a variable that s does not close shows which places are not in the model
spot_open : (s : Subst) (b : Bool) → (Closed (s 0) → ⊥) → Closed (apply s (spot b)) → T b
spot_open s true n c = tt
spot_open s false n c = n c

spot_held : (b : Bool) → (T b → ⊥) → Occurs 0 (spot b)
spot_held true n = absurd (n tt)
spot_held false n = refl

row_held : (n g i : ℕ) → i < n → (T (bit g i) → ⊥) → Occurs 0 (term_at (row n g) i)
row_held n g i l m = subst (λ (t : Term). Occurs 0 t) (sym (row_at n g i l)) (spot_held (bit g i) m)

module _ (n g : ℕ) (s : Subst) where
  at_row : (i : ℕ) → i < n → Closed (apply s (spot (bit g i))) → Closed (apply s (term_at (row n g) i))
  at_row i l c = subst (λ (t : Term). Closed (apply s t)) (sym (row_at n g i l)) c

  row_whole : Closed (s 0) → Grounded (row n g) s (whole n)
  row_whole c i =
      let e = length_spread spot n g in (
        λ b. let l = (bit_whole n i).0 b in (omega arith, at_row i l (spot_closed s (bit g i) c)),
        λ h. let l = h.0 in (bit_whole n i).1 (omega arith),
      )

  row_model : g < 2 ^ n → (Closed (s 0) → ⊥) → Grounded (row n g) s g
  row_model fit opened i =
      let e = length_spread spot n g in (
        λ b.
            let l : i < n = ⊎_elim (λ l. l) (λ m. absurd (below_bits n g i fit m b)) (cases_lt i n) in
            (omega arith, at_row i l (spot_constant s (bit g i) b)),
        λ h.
            let m = h.0 in
            let l : i < n = omega arith in
            spot_open s (bit g i) opened (subst (λ (t : Term). Closed (apply s t)) (row_at n g i l) h.1),
      )

-- where s closes the variable all places are closed, and else those of the model
row_described : (a : Value) → Fits a → Cored Full a → (g : ℕ) → T (a.has g) → Describes a (row a.width g)
row_described a fits cored g held = (length_spread spot a.width g, λ s. ⊎_elim (all s) (some s) (tested (closed (s 0))))
  where
    all : (s : Subst) → T (closed (s 0)) → Modelled a (row a.width g) s
    all s c = record { g = whole a.width; held = cored g held; exact = row_whole a.width g s (closed_fact (s 0) c) }

    some : (s : Subst) → (T (closed (s 0)) → ⊥) → Modelled a (row a.width g) s
    some s n = record { g = g; held = held; exact = row_model a.width g s (fits g held) (λ c. n (fact_closed (s 0) c)) }

-- ---- exactness

pub ground_exact : (a : Value) (x : ℕ) → Fits a → Cored Full a → x < a.width → Ground a x ↔ AlwaysGround formulas a x
ground_exact a x fits cored x_below = (ground_holds a x, exact)
  where
    exact : AlwaysGround formulas a x → Ground a x
    exact none g held =
        let n = a.width in
        let described = row_described a fits cored g held in
        ⊎_elim (λ b. b) (λ m. absurd (none (row n g) described 0 (row_held n g x x_below m))) (tested (bit g x))

pub apart_exact : (a : Value) (x y : ℕ) → Fits a → Cored Full a → x < a.width → y < a.width → Apart a x y ↔ AlwaysApart formulas a x y
apart_exact a x y fits cored x_below y_below = (apart_holds a x y, exact)
  where
    exact : AlwaysApart formulas a x y → Apart a x y
    exact none g held =
        let n = a.width in
        let described = row_described a fits cored g held in
        let lacking : (T (bit g x) → ⊥) → (T (bit g y) → ⊥) → ⊥ = λ m k. none (row n g) described 0 (row_held n g x x_below m) (row_held n g y y_below k) in
        ⊎_elim inl (λ m. ⊎_elim inr (λ k. absurd (lacking m k)) (tested (bit g y))) (tested (bit g x))
