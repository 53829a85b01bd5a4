use Rattle.std.proofs.Common.{◌^◌, ◌≤◌, ◌∙◌, pow_mono}
use Rattle.families.specs.Words.{holds, sets}
use Rattle.families.proofs.Counts.{count_alike, count_few}
use Rattle.rows.specs.Rows.{read}
use Rattle.rows.proofs.Readings.{read_narrow, read_fits}
use Rattle.rows.proofs.reading.Reading.rank.Goals as goal

pub returns : goal.returns
returns g c =
    let reading = c.args.self.now in
    let v = reading.row.now in
    let a = read g.K.Core.core v in
    let narrow = read_narrow v in
    let room : 2 ^ a.width ≤ sets = pow_mono narrow in
    c.count.ensures ∙ count_alike sets (holds reading.sets) a.has (λ h l. reading.off h)
    ∙ count_few (2 ^ a.width) sets a.has room (read_fits g.K.Core.core v)
