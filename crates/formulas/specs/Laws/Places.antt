-- The mask of the places that are closed under a substitution: there is just one, and how it follows the list. Assumes nothing.
use Rattle.std.specs.Prelude.{◌≡◌, ℕ, zero, suc, ◌^◌, ◌<◌, false, T, List, [], ◌∷◌, map, length, get_or, slice_index_or}
use Rattle.std.proofs.Common.{sym, subst, arith}
use Rattle.std.proofs.lemmas.List.{get_or-map, length-map}
use Rattle.domain.specs.Variables.{Below}
use Rattle.domain.specs.Term.{Term, Subst, Closed, apply, term_at, pick}
use Rattle.domain.specs.Term.Term.{app}
use Rattle.domain.specs.Term.Terms.{end}
use Rattle.families.specs.Masks.{whole, pack, cut}
use Rattle.rows.specs.Values.{Value}
use Rattle.formulas.specs.Formulas.{Grounded, Describes}
use Rattle.domain.proofs.Lists.{listed_at}
use Rattle.families.proofs.Masks.{one_mask, bits_below, bit_pack, bit_cut}
use Rattle.families.proofs.Ranges.{bit_whole}
use Rattle.formulas.specs.Laws.Terms.{closed, closed_fact, fact_closed, nothing_left, nothing_closed, chain, applied_chain}

-- ---- the mask

pub grounds : List Term → Subst → ℕ
grounds ts s = pack (map (λ t. closed (apply s t)) ts)

pub grounds_exact : (ts : List Term) (s : Subst) → Grounded ts s (grounds ts s)
unfolding grounds
grounds_exact ts s i =
    let e = bit_pack (map (λ t. closed (apply s t)) ts) i in
    (λ t. to ts i (rw e at t), λ h. rw e (from ts i h.0 h.1))
  where
    to : (ts : List Term) (i : ℕ) → T (slice_index_or (map (λ t. closed (apply s t)) ts) i false) → (i < length ts) × Closed (apply s (term_at ts i))
    to [] i h = elim h [ ]
    to (t ∷ ts) zero h = (omega arith, closed_fact (apply s t) h)
    to (t ∷ ts) (suc i) h = let (l, c) = to ts i h in (omega arith, c)

    from : (ts : List Term) (i : ℕ) → i < length ts → Closed (apply s (term_at ts i)) → T (slice_index_or (map (λ t. closed (apply s t)) ts) i false)
    from [] i l c = absurd (omega arith)
    from (t ∷ ts) zero l c = fact_closed (apply s t) c
    from (t ∷ ts) (suc i) l c = from ts i (omega arith) c

grounded_one : (ts : List Term) (s : Subst) (g h : ℕ) → Grounded ts s g → Grounded ts s h → g ≡ h
grounded_one ts s g h p q = one_mask (λ i. (i < length ts) × Closed (apply s (term_at ts i))) g h p q

pub grounded_below : (ts : List Term) (s : Subst) (g : ℕ) → Grounded ts s g → g < 2 ^ length ts
grounded_below ts s g p = bits_below (length ts) g (λ i l t. let m = ((p i).0 t).0 in omega arith)

-- a value has the mask of each list that it describes
pub grounded_held : (a : Value) (ts : List Term) → Describes a ts → (s : Subst) (g : ℕ) → Grounded ts s g → T (a.has g)
grounded_held a ts described s g p =
    let k = described.1 s in
    subst (λ (h : ℕ). T (a.has h)) (grounded_one ts s k.g g k.exact p) k.held

-- that of all places among them, since some substitution leaves no variables
pub described_whole : (a : Value) (ts : List Term) → Describes a ts → T (a.has (whole a.width))
described_whole a ts described = grounded_held a ts described nothing_left (whole a.width) all_closed
  where
    all_closed : Grounded ts nothing_left (whole a.width)
    all_closed i =
        let e = described.0 in
        let w = bit_whole a.width i in
        (λ t. let l = w.0 t in (omega arith, nothing_closed (term_at ts i)), λ h. let l = h.0 in w.1 (omega arith))

-- ---- after a substitution

pub grounded_applied : (r s : Subst) (ts : List Term) (g : ℕ) → Grounded ts (chain r s) g → Grounded (map (apply s) ts) r g
grounded_applied r s ts g p i =
    let e = applied_chain r s ts i in
    let n = length-map ts (apply s) in (
      λ t. let (l, c) = (p i).0 t in (omega arith, subst (λ (t : Term). Closed t) (sym e) c),
      λ h. let l = h.0 in (p i).1 (omega arith, subst (λ (t : Term). Closed t) e h.1),
    )

-- ---- at the places listed

pub grounded_cut : (ts : List Term) (s : Subst) (xs : List ℕ) (g : ℕ) → Below (length ts) xs → Grounded ts s g → Grounded (pick xs ts) s (cut xs g)
grounded_cut ts s xs g below p i =
    let n = length-map xs (term_at ts) in
    let x = get_or xs i 0 in
    let there : i < length xs → term_at (pick xs ts) i ≡ term_at ts x = get_or-map (term_at ts) xs i 0 (app 0 end) in (
      λ t.
          let (l, b) = (bit_cut xs g i).0 t in
          (omega arith, subst (λ (t : Term). Closed (apply s t)) (sym (there l)) ((p x).0 b).1),
      λ h.
          let m = h.0 in
          let l : i < length xs = omega arith in
          let c = subst (λ (t : Term). Closed (apply s t)) (there l) h.1 in
          (bit_cut xs g i).1 (l, (p x).1 (below x (listed_at xs i l), c)),
    )
