use Rattle.std.proofs.Common.{◌≡◌, ℕ, ◌&&◌, List, take, arith, ◌∙◌}
use Rattle.std.proofs.Math.Bool.{and_assoc}
use Rattle.std.proofs.lemmas.Grind.{common_steps}
use Rattle.domain.specs.Variables.{widest}
use Rattle.families.specs.Masks.{cut, meets}
use Rattle.families.specs.Words.{holds}
use Rattle.rows.specs.Cores.{Empty}
use Rattle.rows.proofs.Readings.{read_narrow, read_fits}
use Rattle.sharing.specs.Sharing.{read, union}
use Rattle.sharing.proofs.Steps.{met_listed}
use Rattle.sharing.proofs.Joins.{unions_are}
use Rattle.sharing.proofs.groups.Groups.returned.Goals as goal

pub returns : goal.returns
returns c h =
    let v = c.args.self.now in
    let a = read v in
    let args : List ℕ = take widest c.args.args.now in
    let p = meets args in
    let some : (g : ℕ) → holds c.meeting.result g ≡ (a.has g && p g) = λ g. grind (arith, common_steps, met_listed) in
    let unions = unions_are a (read_fits Empty v.row) (read_narrow v.row) p c.meeting.result c.unions-unions.result some c.unions-unions.ensures h in
    let met : holds c.meeting-2.result h ≡ (holds c.unions-unions.result h && p h) = grind (arith, common_steps, met_listed) in
    let viewed = cut args h in
    c.viewed_in.ensures h ∙ rw (met, unions, c.sets-2.ensures viewed) (and_assoc (union a p h) (p h) ((read c.args.end.now).has viewed))
