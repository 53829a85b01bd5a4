use Rattle.std.proofs.Common.{◌≡◌, ℕ, zero, suc, ◌+◌, ◌^◌, ◌<◌, ◌≤◌, Bool, false, ◌&&◌, ◌||◌, eqb, ltb, leb, refl, arith, ◌∙◌}
use lib.Pow.{pow-lt}
use Rattle.std.proofs.lemmas.Grind.{common_steps}
use Rattle.domain.specs.Variables.{widest}
use Rattle.families.specs.Masks.{any, alone}
use Rattle.families.specs.Words.{holds, sets}
use Rattle.sharing.proofs.parts.with_each.Goals as goal

abbrev new : ℕ → ℕ → ℕ → Bool
new from h i = leb from i && eqb h (2 ^ i)

none_yet : (from h n : ℕ) → n ≤ from → any n (new from h) ≡ false
none_yet from h zero few = refl
none_yet from h (suc n) few = let e = none_yet from h n (omega arith) in grind (arith, common_steps, e)

one_more : (from h i m : ℕ) (old before : Bool) → i < widest → from ≤ i → m ≡ alone i → before ≡ (old || any i (new from h)) →
    (before || (eqb h m && ltb m sets)) ≡ (old || any (i + 1) (new from h))
one_more from h i m old before few past one is = grind (arith, common_steps, pow-lt)

pub loop-i-init : goal.loop-i-init
loop-i-init c h = let e = none_yet c.args.from h c.args.from (omega arith) in grind (arith, common_steps, e)

pub loop-i-preserved : goal.loop-i-preserved
loop-i-preserved c h =
    let few : c.loop-i.i < widest = omega arith in
    c.insert.ensures h
    ∙ one_more c.args.from h c.loop-i.i c.only.result (holds c.args.family h) (holds c.loop-i.all h) few c.loop-i.auto.i c.only.ensures (c.loop-i.invariant h)
