use Rattle.std.proofs.Common.{arith}
use Rattle.domain.proofs.Lists.{below_each, each_below}
use Rattle.domain.proofs.variables.below.Goals as goal

pub returns-then-x-n : goal.returns-then-x-n
returns-then-x-n c = record {
  yes = λ t. absurd t;
  only = λ all. let low = below_each c.args.xs.now c.args.n all c.loop-x.x-index (omega arith) in omega arith;
}

pub returns : goal.returns
returns c = record {
  yes = λ t. each_below c.args.xs.now c.args.n (λ k low. c.loop-x.invariant k (omega arith));
  only = λ all. tt;
}
