-- The functions give the models that the rules name. Assumes nothing.
use Rattle.std.specs.Prelude.{◌≡◌, ℕ, ◌%◌, ◌^◌, ◌<◌, Bool, true, false, T, ◌↔◌, List, nat_lt, refl}
use Rattle.std.proofs.Common.{subst, ⊎_elim, ltb→lt, lt→ltb}
use Rattle.std.proofs.lemmas.Bool.{cases_lt}
use Rattle.families.specs.Masks.{bit, cut, covers}
use Rattle.rows.specs.Values.{Value, Fits}
use Rattle.formulas.specs.Formulas.{alike, tied, entered, backed}
use Rattle.formulas.specs.Rules.{TieRule, EnterRule, BackRule}
use Rattle.domain.proofs.Booleans.{and_split, and_pair}
use Rattle.families.proofs.Tests.{covers_each, each_covers}
use Rattle.families.proofs.Masks.{one_mask, below_bits}
use Rattle.families.proofs.Ranges.{bit_low}

-- ---- tie

both_alike : (b c : Bool) → (T b → T c) → (T c → T b) → T (alike b c)
both_alike true c to from = to tt
both_alike false true to from = from tt
both_alike false false to from = tt

alike_both : (b c : Bool) → T (alike b c) → T b ↔ T c
alike_both true c t = (λ b. t, λ c. tt)
alike_both false true t = elim t [ ]
alike_both false false t = (λ b. b, λ c. c)

pub tied_rule : (a : Value) (x : ℕ) (ys : List ℕ) → TieRule a x ys (tied a x ys)
tied_rule a x ys = record {
  width = refl;
  sets = λ g.
      let all_ys = covers ys g in (
        λ t.
            let (held, s) = and_split (a.has g) (alike (bit g x) all_ys) t in
            let (to, from) = alike_both (bit g x) all_ys s in
            (held, (λ b. covers_each ys g (to b), λ f. from (each_covers ys g f))),
        λ h.
            and_pair (a.has g) (alike (bit g x) all_ys) h.0
            (both_alike (bit g x) all_ys (λ b. each_covers ys g (h.1.0 b)) (λ c. h.1.1 (covers_each ys g c))),
      );
}

-- ---- enter

-- a model that agrees with h below the width is what h is there
low_of : (n g h : ℕ) → g < 2 ^ n → ((i : ℕ) → i < n → T (bit h i) ↔ T (bit g i)) → g ≡ h % 2 ^ n
low_of n g h below agree = one_mask (λ i. (i < n) × T (bit h i)) g (h % 2 ^ n) (λ i. (to i, λ k. (agree i k.0).0 k.1)) (bit_low n h)
  where
    to : (i : ℕ) → T (bit g i) → (i < n) × T (bit h i)
    to i b =
        let l : i < n = ⊎_elim (λ l. l) (λ m. absurd (below_bits n g i below m b)) (cases_lt i n) in
        (l, (agree i l).1 b)

pub entered_rule : (a : Value) → Fits a → (v : ℕ) → EnterRule a v (entered a v)
entered_rule a fits v = record {
  width = refl;
  sets = λ h.
      let n = a.width in
      let low = h % 2 ^ n in (
        λ t.
            let (below, held) = and_split (nat_lt h (2 ^ v)) (a.has low) t in
            (ltb→lt h (2 ^ v) below, (low, held, λ i l. (λ b. (bit_low n h i).1 (l, b), λ b. ((bit_low n h i).0 b).1))),
        λ k.
            let (g, held, agree) = k.1 in
            let same : g ≡ low = low_of n g h (fits g held) agree in
            and_pair (nat_lt h (2 ^ v)) (a.has low) (lt→ltb h (2 ^ v) k.0) (subst (λ (m : ℕ). T (a.has m)) same held),
      );
}

-- ---- back

pub backed_rule : (a : Value) (args : List ℕ) (b : Value) → BackRule a args b (backed a args b)
backed_rule a args b = record {
  width = refl;
  sets = λ g.
      (and_split (a.has g) (b.has (cut args g)), λ h. and_pair (a.has g) (b.has (cut args g)) h.0 h.1);
}
