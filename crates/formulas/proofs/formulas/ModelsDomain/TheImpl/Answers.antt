use Rattle.rows.proofs.Readings.{all_taken}
use Rattle.formulas.proofs.formulas.ModelsDomain.TheImpl.Goals as goal

pub view-tells : goal.view-tells
view-tells c =
    let (within, different) = c.requires in
    (rw (all_taken c.args.self.now.row c.args.xs.now within different) at c.ensures.reads) within

pub back-tells : goal.back-tells
back-tells c =
    let (within, different) = c.requires.arguments in
    (rw (all_taken c.args.self.now.row c.args.args.now within different) at c.ensures.reads) (within, c.requires.placed)
