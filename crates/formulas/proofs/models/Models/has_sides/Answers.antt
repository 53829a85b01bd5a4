use Rattle.std.proofs.Common.{arith}
use Rattle.formulas.proofs.models.Models.has_sides.Goals as goal

pub returns-then-x-width-clause-yes : goal.returns-then-x-width-clause-yes
returns-then-x-width-clause-yes c = λ t. (omega arith, rw (← c.width-width.ensures) (c.below.ensures.yes t))

pub returns-then-x-width-clause-only : goal.returns-then-x-width-clause-only
returns-then-x-width-clause-only c = λ sides. c.below.ensures.only (rw c.width-width.ensures sides.1)
