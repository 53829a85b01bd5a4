use Rattle.std.proofs.Common.{◌<◌}
use Rattle.families.specs.Words.{holds, sets}
use Rattle.families.proofs.Members.{came_next, came_all}
use Rattle.families.proofs.Loops.{pass_in, pass_out}
use Rattle.families.proofs.Words.{holds_low}
use Rattle.families.proofs.family.Family.filtered.Goals as goal

pub loop-g-preserved-then-passes : goal.loop-g-preserved-then-passes
loop-g-preserved-then-passes g c =
    let f = c.args.self.now in
    let held = came_next f _ c.loop-g.yielded _ c.into_iter-g-iterator.ensures.into_iter_gives.1 c.loop-g.yielded_by c.in-Some.g _ c.in-Some.ensures.steps in
    let n = c.in-Some.g in
    let low : n < sets = holds_low f n held in
    let more = pass_in (goal.F-post g c.args.passes) c.loop-g.yielded n (holds c.loop-g.passing) c.loop-g.invariant.1 c.loop-g.invariant.2 (holds c.insert.new.self) low c.if-passes.ensures c.insert.ensures in
    (c.loop-g.invariant.0, more.0, more.1)

pub loop-g-preserved : goal.loop-g-preserved
loop-g-preserved g c =
    let more = pass_out (goal.F-post g c.args.passes) c.loop-g.yielded c.in-Some.g (holds c.loop-g.passing) c.loop-g.invariant.1 c.loop-g.invariant.2 c.if-passes.ensures in
    (c.loop-g.invariant.0, more.0, more.1)

pub returns : goal.returns
returns g c =
    let each = came_all c.args.self.now _ c.loop-g.yielded _ c.into_iter-g-iterator.ensures.into_iter_gives.1 c.loop-g.yielded_by c.in-None.ensures.steps.0 in
    (λ h t. (each h).0 (c.loop-g.invariant.1 h t).0, λ h held. c.loop-g.invariant.2 h ((each h).1 held))
