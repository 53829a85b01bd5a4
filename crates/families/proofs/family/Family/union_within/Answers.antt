use Rattle.std.proofs.Common.{sym, ap, ◌∙◌, subst}
use Rattle.families.specs.Members.{Rising}
use Rattle.families.proofs.Loops.{inner_of, inner_stop}
use Rattle.families.proofs.Members.{came_here, came_whole}
use Rattle.families.proofs.family.Family.union_within.Goals as goal

pub returns-then-g-h : goal.returns-then-g-h
returns-then-g-h c =
    let gives = c.into_iter-g-iterator.ensures.into_iter_gives in
    let came = came_here c.args.self.now _ c.loop-g.yielded _ gives.1 c.loop-g.yielded_by c.in-Some.g _ c.in-Some.ensures.steps in
    c.loop-g.invariant
    ∙ sym (inner_stop c.args.h c.loop-g.yielded c.in-Some.g _ (subst Rising came gives.2) c.if-g-h.true)
    ∙ ap (inner_of c.args.h) (sym came ∙ gives.0)

pub returns : goal.returns
returns c =
    let gives = c.into_iter-g-iterator.ensures.into_iter_gives in
    let came = came_whole c.args.self.now _ c.loop-g.yielded _ gives.1 c.loop-g.yielded_by c.in-None.ensures.steps.0 in
    c.loop-g.invariant ∙ ap (inner_of c.args.h) (sym came ∙ gives.0)
