use Rattle.std.proofs.Common.{ℕ, ◌≤◌, List, length, take, ap, ◌∙◌, arith}
use Rattle.std.proofs.lemmas.List.{length-take}
use Rattle.domain.specs.Variables.{widest}
use Rattle.rows.specs.Cores.{Full}
use Rattle.rows.proofs.Readings.{stored}
use Rattle.formulas.specs.Bounds.{unknown}
use Rattle.formulas.proofs.Closure.{unknown_fits, unknown_cored}
use Rattle.formulas.proofs.Steps.{all_below}
use Rattle.formulas.proofs.parts.unknown_at.Goals as goal

pub returns : goal.returns
returns c =
    let xs : List ℕ = take widest c.args.xs.now in
    let n = length xs in
    let short : n ≤ widest = simp length-take (omega arith) in
    stored Full c.new.result (unknown n) c.new.ensures (ap length c.first.ensures) short (unknown_fits n) (unknown_cored n)
    (λ h low. c.all.ensures h ∙ all_below n short h low)
