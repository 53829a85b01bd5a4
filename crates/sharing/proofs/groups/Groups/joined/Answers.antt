use Rattle.std.proofs.Common.{◌≡◌, ℕ, ◌&&◌, arith}
use Rattle.std.proofs.lemmas.Grind.{common_steps}
use Rattle.families.specs.Words.{holds}
use Rattle.rows.specs.Cores.{Empty}
use Rattle.rows.proofs.Readings.{read_narrow, read_fits}
use Rattle.sharing.specs.Sharing.{read, touches}
use Rattle.sharing.proofs.Steps.{met_listed, met_either}
use Rattle.sharing.proofs.Joins.{unions_are}
use Rattle.sharing.proofs.groups.Groups.joined.Goals as goal

pub returns : goal.returns
returns c h =
    let v = c.args.self.now in
    let a = read v in
    let p = touches c.args.x c.args.ys.now in
    let touched : (g : ℕ) → holds c.meeting-touched.result g ≡ (a.has g && p g) = λ g. grind (arith, common_steps, met_either) in
    let unions = unions_are a (read_fits Empty v.row) (read_narrow v.row) p c.meeting-touched.result c.unions-unions.result touched c.unions-unions.ensures h in
    grind (arith, common_steps, met_listed)
