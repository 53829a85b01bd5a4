use Rattle.std.proofs.Common.{rules}
use Rattle.std.proofs.Math.Bool.{and_comm}
use Rattle.rows.specs.Rows.{read_has}
use Rattle.rows.proofs.row.Row.narrowed.Goals as goal

pub returns-then-has : goal.returns-then-has
unfolding read_has
returns-then-has g c h =
    search (rules, and_comm, c.narrowed.ensures h)

pub returns-else-has : goal.returns-else-has
unfolding read_has
returns-else-has g c h = search (rules, c.new.ensures h)
