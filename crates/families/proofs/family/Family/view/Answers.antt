use Rattle.std.proofs.Common.{◌≡◌, ℕ, ◌^◌, ◌<◌, ◌≤◌, Bool, ◌&&◌, ◌||◌, eqb, ltb, List, length, take, subst, arith, pow_mono}
use Rattle.std.proofs.lemmas.List.{length-take}
use Rattle.domain.specs.Variables.{widest}
use Rattle.families.specs.Masks.{cut}
use Rattle.families.specs.Words.{holds, sets}
use Rattle.families.proofs.Masks.{cut_below}
use Rattle.families.proofs.Members.{came_all}
use Rattle.families.proofs.Loops.{image_in}
use Rattle.families.proofs.family.Family.view.Goals as goal

pub loop-g-preserved : goal.loop-g-preserved
loop-g-preserved c =
    let n : ℕ = c.in-Some.g in
    let xs : List ℕ = take widest c.args.xs.now in
    let short : length xs ≤ widest = simp length-take (omega arith) in
    let room : 2 ^ length xs ≤ sets = pow_mono short in
    let f : ℕ → ℕ = cut xs in
    let low : f n < sets = let l = cut_below xs n in omega arith in
    let before : ℕ → Bool = holds c.loop-g.cuts in
    let after : ℕ → Bool = holds c.insert.new.self in
    image_in f c.loop-g.yielded n before after c.loop-g.invariant low
    (subst (λ (m : ℕ). (h : ℕ) → after h ≡ (before h || (eqb h m && ltb m sets))) c.cut.ensures c.insert.ensures)

pub returns : goal.returns
returns c h =
    let each = came_all c.args.self.now _ c.loop-g.yielded _ c.into_iter-g-iterator.ensures.into_iter_gives.1 c.loop-g.yielded_by c.in-None.ensures.steps.0 in (
      λ t. let (g, l, e) = (c.loop-g.invariant h).0 t in (g, (each g).0 l, e),
      λ k. let (g, held, e) = k in (c.loop-g.invariant h).1 (g, (each g).1 held, e),
    )
