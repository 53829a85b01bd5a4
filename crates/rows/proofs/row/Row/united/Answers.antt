use Rattle.std.proofs.Common.{◌||◌, ◌∙◌, ap₂}
use Rattle.rows.specs.Rows.{read}
use Rattle.rows.specs.Values.{joined}
use Rattle.rows.proofs.Cored.{joined_cored}
use Rattle.rows.proofs.Readings.{stored, read_narrow, read_fits, read_cored}
use Rattle.rows.proofs.Values.{joined_fits}
use Rattle.rows.proofs.row.Row.united.Goals as goal

pub returns : goal.returns
returns g c =
    let k = g.K.Core.core in
    let v = c.args.self.now in
    let w = c.args.other.now in
    stored k c.new.result (joined (read k v) (read k w)) c.new.ensures c.width.ensures (read_narrow v)
    (joined_fits (read k v) (read k w) c.requires (read_fits k v) (read_fits k w))
    (joined_cored k (read k v) (read k w) c.requires (read_cored k v) (read_cored k w))
    (λ h l. c.union-map.ensures h ∙ ap₂ ◌||◌ (c.sets.ensures h) (c.sets-2.ensures h))
