use Rattle.std.proofs.Common.{◌^◌, ◌≤◌, sym, ◌∙◌, arith, pow_mono}
use Rattle.std.proofs.lemmas.Bool.{lt-ltb, le-leb}
use Rattle.families.proofs.mask.lies_below.Goals as goal

pub returns-then-n-ge64 : goal.returns-then-n-ge64
returns-then-n-ge64 c =
    let n = c.args.n in
    let g = c.args.g in
    let wide : 64 ≤ n = c.if-n-ge64.true in
    let room : 2 ^ 64 ≤ 2 ^ n = pow_mono wide in
    le-leb 64 n wide ∙ sym (lt-ltb g (2 ^ n) (omega arith))
