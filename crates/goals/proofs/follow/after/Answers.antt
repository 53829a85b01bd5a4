use Rattle.goals.proofs.Equations.{below_sides}
use Rattle.goals.proofs.follow.after.Goals as goal

pub returns : goal.returns
returns g c =
    let m = g.D.Domain.model in
    let a = m.read c.args.row.now in
    let of = c.sides.ensures in
    let inside = below_sides (m.width a) c.args.goal.now of.x of.ys in (
      λ all. let tied = c.tie.ensures.inside (inside.1 all) in cc,
      λ no. c.tie.ensures.outside (λ both. no (inside.0 both)),
    )
