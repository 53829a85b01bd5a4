-- `tied`, `entered` and `backed` keep the order. Assumes nothing.
use Rattle.std.proofs.Common.{subst}
use Rattle.std.specs.Prelude.{ℕ, ◌%◌, ◌^◌, T, List, nat_lt, refl}
use Rattle.families.specs.Masks.{bit, cut, covers}
use Rattle.rows.specs.Values.{Value, Under}
use Rattle.formulas.specs.Formulas.{alike, tied, entered, backed}
use Rattle.domain.proofs.Booleans.{and_grows}

module _ (a b : Value) (under : Under a b) where
  pub tie_grows : (x : ℕ) (ys : List ℕ) → Under (tied a x ys) (tied b x ys)
  tie_grows x ys = (
    under.0,
    λ g.
        let test = alike (bit g x) (covers ys g) in
        and_grows (a.has g) test (b.has g) test (under.1 g) (λ t. t),
  )

  pub enter_grows : (v : ℕ) → Under (entered a v) (entered b v)
  enter_grows v = (
    refl,
    λ h.
        and_grows (nat_lt h (2 ^ v)) (a.has (h % 2 ^ a.width)) (nat_lt h (2 ^ v)) (b.has (h % 2 ^ b.width)) (λ t. t)
        (λ t. subst (λ (n : ℕ). T (b.has (h % 2 ^ n))) under.0 (under.1 (h % 2 ^ a.width) t)),
  )

  pub back_grows : (args : List ℕ) (c d : Value) → Under c d → Under (backed a args c) (backed b args d)
  back_grows args c d ends = (
    under.0,
    λ g.
        and_grows (a.has g) (c.has (cut args g)) (b.has g) (d.has (cut args g)) (under.1 g) (ends.1 (cut args g)),
  )
