-- What `tied`, `viewed`, `entered` and `backed` describe. Assumes nothing.
use Rattle.std.specs.Prelude.{◌≡◌, ℕ, ◌%◌, ◌^◌, ◌<◌, T, List, ◌++◌, map, length, nat_lt}
use Rattle.std.proofs.Common.{sym, ap, subst, ◌∙◌, arith, lt→ltb, length-append}
use Rattle.std.proofs.lemmas.List.{length-map}
use Rattle.std.proofs.Math.ListN.{get_or-append}
use Rattle.domain.specs.Variables.{Listed, Below}
use Rattle.domain.specs.Term.{Term, Subst, Closed, Above, apply, term_at, pick}
use Rattle.domain.specs.Term.Term.{var, app}
use Rattle.domain.specs.Term.Terms.{end}
use Rattle.domain.specs.Outcomes.{Equated, Begun, Resumed}
use Rattle.domain.specs.Model.{Sides, Arguments, Room, Placed}
use Rattle.families.specs.Masks.{bit, cut}
use Rattle.rows.specs.Values.{Value, viewed}
use Rattle.formulas.specs.Formulas.{Grounded, Modelled, Describes, tied, entered, backed, formulas}
use Rattle.domain.proofs.Booleans.{and_pair}
use Rattle.families.proofs.Ranges.{bit_low}
use Rattle.rows.proofs.Values.{some_viewed}
use Rattle.formulas.specs.Laws.Terms.{chain, apply_chain, side_each, each_side}
use Rattle.formulas.specs.Laws.Places.{grounds, grounds_exact, grounded_below, grounded_held, grounded_applied, grounded_cut}
use Rattle.formulas.specs.Laws.Rules.{tied_rule, backed_rule}

below_length : (a : Value) (ts : List Term) → Describes a ts → (xs : List ℕ) → Below a.width xs → Below (length ts) xs
below_length a ts described xs below = subst (λ (n : ℕ). Below n xs) (sym described.0) below

-- ---- tie: both sides are one term after s, so under what follows they are closed alike

module _ (a : Value) (x : ℕ) (ys : List ℕ) (sides : Sides formulas a x ys) (n : ℕ) (ts ts' : List Term) (described : Describes a ts)
    (o : Equated n ts x ys ts') (r : Subst) where
  abbrev both : Subst
  both = chain r o.s

  abbrev before : Modelled a ts both
  before = described.1 both

  sides_equal : apply both (term_at ts x) ≡ apply both o.right
  sides_equal = sym (apply_chain r o.s (term_at ts x)) ∙ ap (apply r) o.unifies.equal ∙ apply_chain r o.s o.right

  x_then_ys : T (bit before.g x) → (y : ℕ) → Listed y ys → T (bit before.g y)
  x_then_ys b y l =
      let c : Closed (apply both o.right) = subst (λ (t : Term). Closed t) sides_equal ((before.exact x).0 b).1 in
      (before.exact y).1 (below_length a ts described ys sides.1 y l, side_each both ts o.side c y l)

  ys_then_x : ((y : ℕ) → Listed y ys → T (bit before.g y)) → T (bit before.g x)
  ys_then_x f =
      let c : Closed (apply both o.right) = each_side both ts o.side (λ y l. ((before.exact y).0 (f y l)).1) in
      let e = described.0 in
      let l = sides.0 in
      (before.exact x).1 (omega arith, subst (λ (t : Term). Closed t) (sym sides_equal) c)

  tie_modelled : Modelled (tied a x ys) (map (apply o.s) ts) r
  tie_modelled = record {
    g = before.g;
    held = ((tied_rule a x ys).sets before.g).1 (before.held, (x_then_ys, ys_then_x));
    exact = grounded_applied r o.s ts before.g before.exact;
  }

pub tie_describes : (a : Value) (x : ℕ) (ys : List ℕ) → Sides formulas a x ys → (n : ℕ) (ts ts' : List Term) → Describes a ts → Above n ts → Equated n ts x ys ts' → Describes (tied a x ys) ts'
tie_describes a x ys sides n ts ts' described above o =
    subst (Describes (tied a x ys)) (sym o.after)
    (length-map ts (apply o.s) ∙ described.0, tie_modelled a x ys sides n ts ts' described o)

-- ---- view

pub view_describes : (a : Value) (xs : List ℕ) → Arguments formulas a xs → (ts : List Term) → Describes a ts → Describes (viewed a xs) (pick xs ts)
view_describes a xs arguments ts described = (
  length-map xs (term_at ts),
  λ s.
      let k = described.1 s in
      let fits : k.g < 2 ^ a.width = subst (λ (n : ℕ). k.g < 2 ^ n) described.0 (grounded_below ts s k.g k.exact) in
      record {
        g = cut xs k.g;
        held = some_viewed a xs k.g fits k.held;
        exact = grounded_cut ts s xs k.g (below_length a ts described xs arguments.0) k.exact;
      },
)

-- ---- enter: at the old places the longer list is closed as the old one is

module _ (a : Value) (v : ℕ) (ts ts' : List Term) (described : Describes a ts) (o : Begun ts v ts') (s : Subst) where
  abbrev longer : List Term
  longer = ts ++ map var o.us

  longer_length : length longer ≡ v
  longer_length = let e = o.filled in omega (arith, length-append ts (map var o.us), length-map o.us var)

  at_old : (i : ℕ) → i < length ts → apply s (term_at longer i) ≡ apply s (term_at ts i)
  at_old i l = ap (apply s) (get_or-append ts (map var o.us) (app 0 end) i l)

  old_places : (h : ℕ) → Grounded longer s h → Grounded ts s (h % 2 ^ a.width)
  old_places h p i =
      let e = described.0 in
      let f = o.filled in
      let m = longer_length in
      let low = bit_low a.width h i in (
        λ t.
            let (l, b) = low.0 t in
            let l' : i < length ts = omega arith in
            (l', subst (λ (t : Term). Closed t) (at_old i l') ((p i).0 b).1),
        λ c.
            let l = c.0 in
            low.1 (omega arith, (p i).1 (omega arith, subst (λ (t : Term). Closed t) (sym (at_old i l)) c.1)),
      )

  enter_modelled : Modelled (entered a v) longer s
  enter_modelled =
      let h = grounds longer s in
      let exact = grounds_exact longer s in
      let below : h < 2 ^ v = subst (λ (n : ℕ). h < 2 ^ n) longer_length (grounded_below longer s h exact) in
      let old : T (a.has (h % 2 ^ a.width)) = grounded_held a ts described s (h % 2 ^ a.width) (old_places h exact) in
      record { g = h; held = and_pair (nat_lt h (2 ^ v)) (a.has (h % 2 ^ a.width)) (lt→ltb h (2 ^ v) below) old; exact = exact }

pub enter_describes : (a : Value) (v : ℕ) → Room formulas a v → (ts ts' : List Term) → Describes a ts → Begun ts v ts' → Describes (entered a v) ts'
enter_describes a v room ts ts' described o =
    subst (Describes (entered a v)) (sym o.after)
    (longer_length a v ts ts' described o var, enter_modelled a v ts ts' described o)

-- ---- back: at the arguments the list after s is what was returned

module _ (a : Value) (args : List ℕ) (b : Value) (arguments : Arguments formulas a args) (ts rs ts' : List Term) (described : Describes a ts)
    (returned : Describes b rs) (o : Resumed ts args rs ts') (r : Subst) where
  abbrev caller : Modelled a ts (chain r o.s)
  caller = described.1 (chain r o.s)

  at_arguments : Grounded (map (apply o.s) (pick args ts)) r (cut args caller.g)
  at_arguments =
      let inside = below_length a ts described args arguments.0 in
      let view = grounded_cut ts (chain r o.s) args caller.g inside caller.exact in
      grounded_applied r o.s (pick args ts) (cut args caller.g) view

  back_modelled : Modelled (backed a args b) (map (apply o.s) ts) r
  back_modelled =
      let view = cut args caller.g in
      let exact : Grounded rs r view = subst (λ (us : List Term). Grounded us r view) o.returns.takes at_arguments in
      record {
        g = caller.g;
        held = ((backed_rule a args b).sets caller.g).1 (caller.held, grounded_held b rs returned r view exact);
        exact = grounded_applied r o.s ts caller.g caller.exact;
      }

pub back_describes : (a : Value) (args : List ℕ) (b : Value) → Arguments formulas a args → Placed formulas args b → (ts rs ts' : List Term) → Describes a ts → Describes b rs → Resumed ts args rs ts' → Describes (backed a args b) ts'
back_describes a args b arguments placed ts rs ts' described returned o =
    subst (Describes (backed a args b)) (sym o.after)
    (length-map ts (apply o.s) ∙ described.0, back_modelled a args b arguments ts rs ts' described returned o)
