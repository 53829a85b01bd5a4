-- The verdicts are exact: a group that speaks against one is that of a variable of some described list. Assumes nothing.
use Rattle.std.specs.Prelude.{◌≡◌, ℕ, ◌^◌, ◌<◌, Bool, true, false, T, ◌↔◌, List, refl}
use Rattle.std.proofs.Common.{sym, subst, ⊎_elim, arith}
use Rattle.std.proofs.lemmas.Bool.{cases_eq, cases_lt}
use Rattle.domain.specs.Model.{AlwaysGround, AlwaysApart}
use Rattle.domain.specs.Term.{Term, Occurs, term_at}
use Rattle.domain.specs.Term.Term.{var, app}
use Rattle.domain.specs.Term.Terms.{end}
use Rattle.families.specs.Masks.{bit}
use Rattle.rows.specs.Cores.{Empty}
use Rattle.rows.specs.Rows.{Cored}
use Rattle.rows.specs.Values.{Value, Fits}
use Rattle.sharing.specs.Sharing.{sharing, Grouped, Describes, Ground, Apart}
use Rattle.families.proofs.Spread.{spread, length_spread, spread_at}
use Rattle.families.proofs.Masks.{below_bits, zero_bits}
use Rattle.domain.proofs.Terms.{place_below}

pub ground_holds : (a : Value) (x : ℕ) → Ground a x → AlwaysGround sharing a x
ground_holds a x known ts described u o =
    let k = described.1 u in known k.g k.held ((k.exact x).1 o)

pub apart_holds : (a : Value) (x y : ℕ) → Apart a x y → AlwaysApart sharing a x y
apart_holds a x y apart ts described u o p =
    let k = described.1 u in apart k.g k.held ((k.exact x).1 o) ((k.exact y).1 p)

-- ---- the list of a group: variable 0 at its places, a constant at the others

abbrev spot : Bool → Term
spot true = var 0
spot false = app 0 end

spot_holds : (b : Bool) → T b → Occurs 0 (spot b)
spot_holds true t = refl
spot_holds false t = t

spot_held : (b : Bool) (u : ℕ) → Occurs u (spot b) → (u ≡ 0) × T b
spot_held true u o = (o, tt)
spot_held false u o = elim o [ ]

abbrev row : ℕ → ℕ → List Term
row = spread spot

row_at : (n g i : ℕ) → i < n → term_at (row n g) i ≡ spot (bit g i)
row_at = spread_at spot (app 0 end)

-- what occurs in it
row_holds : (n g i : ℕ) → g < 2 ^ n → T (bit g i) → Occurs 0 (term_at (row n g) i)
row_holds n g i fit b =
    ⊎_elim (λ l. subst (λ (t : Term). Occurs 0 t) (sym (row_at n g i l)) (spot_holds (bit g i) b))
    (λ l. absurd (below_bits n g i fit l b)) (cases_lt i n)

row_held : (n g i u : ℕ) → Occurs u (term_at (row n g) i) → (u ≡ 0) × T (bit g i)
row_held n g i u o =
    let l = place_below (row n g) i u o in
    let e = length_spread spot n g in
    spot_held (bit g i) u (subst (λ (t : Term). Occurs u t) (row_at n g i (omega arith)) o)

module _ (a : Value) (fits : Fits a) (full : Cored Empty a) (g : ℕ) (held : T (a.has g)) where
  row_group : (u : ℕ) → Grouped a (row a.width g) u
  row_group u =
      ⊎_elim
      (λ e. record {
        g = g;
        held = held;
        exact = λ i. (
          λ b. subst (λ (v : ℕ). Occurs v (term_at (row a.width g) i)) (sym e) (row_holds a.width g i (fits g held) b),
          λ o. (row_held a.width g i u o).1,
        );
      })
      (λ n. record {
        g = 0;
        held = full g held;
        exact = λ i. (λ b. absurd (zero_bits i b), λ o. absurd (n (row_held a.width g i u o).0));
      })
      (cases_eq u 0)

  row_described : Describes a (row a.width g)
  row_described = (length_spread spot a.width g, row_group)

pub ground_exact : (a : Value) (x : ℕ) → Fits a → Cored Empty a → Ground a x ↔ AlwaysGround sharing a x
ground_exact a x fits full = (
  ground_holds a x,
  λ none g held bit_x. none (row a.width g) (row_described a fits full g held) 0 (row_holds a.width g x (fits g held) bit_x),
)

pub apart_exact : (a : Value) (x y : ℕ) → Fits a → Cored Empty a → Apart a x y ↔ AlwaysApart sharing a x y
apart_exact a x y fits full = (
  apart_holds a x y,
  λ none g held bit_x bit_y.
      none (row a.width g) (row_described a fits full g held) 0 (row_holds a.width g x (fits g held) bit_x)
      (row_holds a.width g y (fits g held) bit_y),
)
