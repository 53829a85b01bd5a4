use Rattle.goals.proofs.Equations.{below_sides}
use Rattle.goals.proofs.goal.Goal.within.Goals as goal

pub returns : goal.returns
returns c =
    let below = below_sides c.args.n c.args.self.now c.sides.ensures.x c.sides.ensures.ys in
    record {
      yes = λ t. below.0 (c.within.ensures.left t, c.within.ensures.right t);
      only = λ all. let parts = below.1 all in c.within.ensures.only parts.0 parts.1;
    }
