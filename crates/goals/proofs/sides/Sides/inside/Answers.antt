use Rattle.std.proofs.Common.{ℕ, ◌<◌, Bool, T, true, false, MatchBool, subst}
use Rattle.domain.specs.Variables.{Below as InRange}
use Rattle.goals.proofs.sides.Sides.inside.Goals as goal

answered : (r : Bool) (P : Type 0) → (T r → P) → (P → T r) → MatchBool r P (P → ⊥)
answered true P shows only = shows tt
answered false P _ only = only

pub returns : goal.returns
returns g c =
    let P : ℕ → Type 0 = λ n. (c.args.self.x < n) × InRange n c.args.self.ys.now in
    subst (λ (n : ℕ). MatchBool c.within.result (P n) (P n → ⊥)) c.width.ensures
    (answered c.within.result (P c.width.result) (λ t. (c.within.ensures.left t, c.within.ensures.right t)) (λ w. c.within.ensures.only w.0 w.1))
