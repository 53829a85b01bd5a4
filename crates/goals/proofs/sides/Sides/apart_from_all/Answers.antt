use Rattle.std.proofs.Common.{rules, ◌∷◌}
use Rattle.goals.specs.Goals.{ApartFrom}
use Rattle.goals.proofs.Walks.{serves_listed, all_listed}
use Rattle.goals.proofs.sides.Sides.apart_from_all.Goals as goal

pub all-requires-clause-callable : goal.all-requires-clause-callable
all-requires-clause-callable g c =
    serves_listed c.args.xs.now c.iter.ensures.rest (λ x q k. search rules)
    (λ x l. let below = c.requires.xs x.now l in let right = c.requires.right in search rules)

pub returns : goal.returns
returns g c =
    let ys = c.args.self.x ∷ c.args.self.ys.now in
    let each = all_listed (λ x. ApartFrom g.D.Domain.model c.args.row.now x ys) _ c.args.xs.now c.all.result c.iter.ensures.rest c.all.ensures.ran (λ x q k. search rules) (λ x q k. search rules) in
    record { yes = λ t x y l. each.0 t x l y; only = λ all. each.1 (λ x l y. all x y l) }
