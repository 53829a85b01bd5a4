use Rattle.std.proofs.Common.{rules, ℕ, sym, subst, inr, ⊎_elim}
use Rattle.domain.specs.Model.{AlwaysApart}
use Rattle.goals.proofs.Walks.{serves_listed, all_listed}
use Rattle.goals.proofs.sides.Sides.apart_from.Goals as goal

pub all-requires-clause-callable : goal.all-requires-clause-callable
all-requires-clause-callable g c =
    serves_listed c.args.self.ys.now c.iter.ensures.rest (λ y q k. search rules) (λ y l. let below = c.requires.right y.now l in search rules)

pub returns-then-apart : goal.returns-then-apart
returns-then-apart g c =
    let m = g.D.Domain.model in
    let row = c.args.row.now in
    let x : ℕ = c.args.x in
    let each = all_listed (m.Apart (m.read row) x) _ c.args.self.ys.now c.all.result c.iter.ensures.rest c.all.ensures.ran (λ y q k. search rules) (λ y q k. search rules) in
    let always = λ (y : ℕ). g.met.D.Domain.lawful.apart_holds (m.read row) x y c.requires.x in
    let apart = λ (y : ℕ). g.met.D.Exact.exact.apart_exact row x y c.requires.x in
    record {
      yes = λ t y l.
          ⊎_elim (λ e. subst (AlwaysApart m (m.read row) x) (sym e) (always c.args.self.x c.requires.left (c.if-apart.ensures.yes tt)))
          (λ k. always y (c.requires.right y k) (each.0 t y k)) l;
      only = λ all. each.1 (λ y l. apart y (c.requires.right y l) (all y (inr l)));
    }
