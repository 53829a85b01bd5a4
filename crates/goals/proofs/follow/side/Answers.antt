use Rattle.goals.proofs.Equations.{below_sides, apart_sides}
use Rattle.goals.proofs.follow.side.Goals as goal

pub returns : goal.returns
returns g c =
    let m = g.D.Domain.model in
    let w = c.args.row.now in
    let first = c.args.first.now in
    let second = c.args.second.now in
    let of_first = c.sides.ensures in
    let of_second = c.sides-2.ensures in
    let known = below_sides (m.width (m.read w)) first of_first.x of_first.ys in
    let known_too = below_sides (m.width (m.read w)) second of_second.x of_second.ys in
    let apart = apart_sides m w first second of_first.x of_first.ys of_second.x of_second.ys in (
      λ t. apart.0 (c.apart.ensures.left t, c.apart.ensures.right t),
      λ inside all. let parts = apart.1 all in c.apart.ensures.only (known.1 inside.0) (known_too.1 inside.1) parts.0 parts.1,
      λ no. c.apart.ensures.outside (λ both. no (known.0 both.0, known_too.0 both.1)),
    )
