-- Tie, back and entry keep the order. Assumes nothing.
use Rattle.std.proofs.Common.{sym, subst}
use Rattle.std.specs.Prelude.{ℕ, ◌^◌, ◌<◌, Bool, true, not, ◌&&◌, ◌||◌, T, List, ◌==◌, nat_le, refl}
use Rattle.families.specs.Masks.{bit, cut, any, meets}
use Rattle.rows.specs.Values.{Value, Under}
use Rattle.sharing.specs.Sharing.{touches, picks, union, tied, entered, backed}
use Rattle.domain.proofs.Booleans.{and_grows, or_grows}
use Rattle.sharing.specs.Laws.Picks.{Picked, picks_some, some_picks, union_all, all_union}

module _ (a b : Value) (under : Under a b) where
  below_grows : (g : ℕ) → g < 2 ^ a.width → g < 2 ^ b.width
  below_grows g l = subst (λ (n : ℕ). g < 2 ^ n) under.0 l

  picked_grows : (p : ℕ → Bool) (h : ℕ) (q : ℕ → Bool) → Picked a p h q → Picked b p h q
  picked_grows p h q k = record {
    g = k.g;
    below = below_grows k.g k.below;
    held = under.1 k.g k.held;
    passes = k.passes;
    inner = λ i l. k.inner i (subst (λ (n : ℕ). i < n) (sym under.0) l);
    also = k.also;
  }

  picks_grows : (p : ℕ → Bool) (h : ℕ) (q : ℕ → Bool) → T (picks a p h q) → T (picks b p h q)
  picks_grows p h q t = some_picks b p h q (picked_grows p h q (picks_some a p h q t))

  union_grows : (p : ℕ → Bool) (h : ℕ) → T (union a p h) → T (union b p h)
  union_grows p h t =
      let k = union_all a p h t in
      all_union b p h (record {
        below = below_grows h k.below;
        covered = λ i l bit_i. picked_grows p h (λ g. bit g i) (k.covered i (subst (λ (n : ℕ). i < n) (sym under.0) l) bit_i);
      })

  kept_grows : (keep : Bool) (h : ℕ) → T (a.has h && keep) → T (b.has h && keep)
  kept_grows keep h = and_grows (a.has h) keep (b.has h) keep (under.1 h) (λ t. t)

  pub tie_grows : (x : ℕ) (ys : List ℕ) → Under (tied a x ys) (tied b x ys)
  tie_grows x ys = (
    under.0,
    λ h.
        let p = touches x ys in
        let with_x = λ (v : Value). picks v p h (λ g. bit g x) in
        let with_ys = λ (v : Value). picks v p h (meets ys) in
        or_grows (a.has h && not (p h)) (union a p h && (with_x a && with_ys a)) (b.has h && not (p h)) (union b p h && (with_x b && with_ys b))
        (kept_grows (not (p h)) h)
        (and_grows (union a p h) (with_x a && with_ys a) (union b p h) (with_x b && with_ys b) (union_grows p h)
        (and_grows (with_x a) (with_ys a) (with_x b) (with_ys b) (picks_grows p h (λ g. bit g x)) (picks_grows p h (meets ys)))),
  )

  pub back_grows : (args : List ℕ) (c d : Value) → Under c d → Under (backed a args c) (backed b args d)
  back_grows args c d ends = (
    under.0,
    λ h.
        let p = meets args in
        let one = λ (v : Value). picks v p h (λ g. true) in
        let view = cut args h in
        let kept = λ (v : Value). v.has h && not (p h) in
        let made = λ (v e : Value). union v p h && (one v && e.has view) in
        and_grows (a.has 0) (c.has 0 && (kept a || made a c)) (b.has 0) (d.has 0 && (kept b || made b d)) (under.1 0)
        (and_grows (c.has 0) (kept a || made a c) (d.has 0) (kept b || made b d) (ends.1 0)
        (or_grows (kept a) (made a c) (kept b) (made b d) (kept_grows (not (p h)) h)
        (and_grows (union a p h) (one a && c.has view) (union b p h) (one b && d.has view) (union_grows p h)
        (and_grows (one a) (c.has view) (one b) (d.has view) (picks_grows p h (λ g. true)) (ends.1 view))))),
  )

  pub enter_grows : (v : ℕ) → Under (entered a v) (entered b v)
  enter_grows v = (
    refl,
    λ h.
        let new = λ (c : Value). any v (λ i. nat_le c.width i && h == 2 ^ i) in
        and_grows (a.has 0) (a.has h || new a) (b.has 0) (b.has h || new b) (under.1 0)
        (or_grows (a.has h) (new a) (b.has h) (new b) (under.1 h)
        (λ t. subst (λ (n : ℕ). T (any v (λ i. nat_le n i && h == 2 ^ i))) under.0 t)),
  )
