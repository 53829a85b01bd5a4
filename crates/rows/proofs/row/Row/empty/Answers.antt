use Rattle.std.proofs.Common.{refl}
use Rattle.rows.specs.Values.{never}
use Rattle.rows.proofs.Readings.{stored}
use Rattle.rows.proofs.row.Row.empty.Goals as goal

pub returns : goal.returns
returns g c =
    stored g.K.Core.core c.new-2.result (never c.args.width) c.new-2.ensures refl c.requires (λ g t. absurd t) (λ g t. t) (λ h l. c.new.ensures h)
