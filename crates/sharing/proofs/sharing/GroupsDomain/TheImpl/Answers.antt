use Rattle.std.proofs.Common.{ℕ, List, ap, ◌∙◌}
use Rattle.rows.specs.Values.{viewed}
use Rattle.sharing.specs.Sharing.{read, backed}
use Rattle.rows.proofs.Readings.{all_taken}
use Rattle.sharing.proofs.sharing.GroupsDomain.TheImpl.Goals as goal

pub view-tells : goal.view-tells
view-tells c =
    let v = c.args.self.now in
    c.ensures.reads ∙ ap (viewed (read v)) (all_taken v.row c.args.xs.now c.requires.0 c.requires.1)

pub back-tells : goal.back-tells
back-tells c =
    let v = c.args.self.now in
    c.ensures.reads
    ∙ ap (λ (args : List ℕ). backed (read v) args (read c.args.end.now))
    (all_taken v.row c.args.args.now c.requires.arguments.0 c.requires.arguments.1)
