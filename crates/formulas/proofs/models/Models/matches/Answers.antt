use Rattle.std.proofs.Common.{arith}
use Rattle.formulas.proofs.models.Models.matches.Goals as goal

pub returns-then-has_all-clause-yes : goal.returns-then-has_all-clause-yes
returns-then-has_all-clause-yes c = λ t. (c.if-has_all.ensures.yes tt, grind arith)
