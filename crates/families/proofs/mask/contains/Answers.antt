use Rattle.std.proofs.Common.{◌^◌, ◌<◌, sym, ◌∙◌, arith}
use Rattle.std.proofs.lemmas.Bool.{le-ltb}
use Rattle.families.proofs.Words.{high_bit}
use Rattle.families.proofs.mask.contains.Goals as goal

-- a mask has no variable past its bits
pub returns-else-x-lt64 : goal.returns-else-x-lt64
returns-else-x-lt64 c =
    let fits : c.args.g < 2 ^ 64 = omega arith in
    le-ltb c.args.x 64 c.if-x-lt64.false ∙ sym (high_bit 64 c.args.g c.args.x fits c.if-x-lt64.false)
