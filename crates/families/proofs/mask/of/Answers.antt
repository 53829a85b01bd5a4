use Rattle.std.proofs.Common.{ℕ, ◌+◌, List, get_or, drop, sym, ap, ◌∙◌}
use lib.Bits.{bit_or, or_zero_r}
use Rattle.std.proofs.lemmas.List.{drop_all, drop_more}
use Rattle.families.specs.Masks.{alone, coded}
use Rattle.families.proofs.Masks.{or_assoc}
use Rattle.families.proofs.mask.of.Goals as goal

pub loop-x-preserved : goal.loop-x-preserved
loop-x-preserved c =
    let xs : List ℕ = c.args.xs.now in
    let k : ℕ = c.loop-x.x-index in
    let all : ℕ = c.loop-x.all in
    let rest : ℕ = coded (drop (k + 1) xs) in
    ap (λ (m : ℕ). bit_or (bit_or all m) rest) c.only-all.ensures
    ∙ or_assoc all (alone (get_or xs k 0)) rest
    ∙ ap (λ (ys : List ℕ). bit_or all (coded ys)) (sym (drop_more xs k 0 c.loop-x-test.true))
    ∙ c.loop-x.invariant

pub returns : goal.returns
returns c =
    let xs : List ℕ = c.args.xs.now in
    let all : ℕ = c.loop-x.all in
    sym (or_zero_r all) ∙ ap (λ (ys : List ℕ). bit_or all (coded ys)) (sym (drop_all c.loop-x.x-index xs c.loop-x-test.false))
    ∙ c.loop-x.invariant
