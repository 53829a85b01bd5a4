use Rattle.formulas.proofs.formulas.ModelsDomain.view.Goals as goal

pub returns-clause-past : goal.returns-clause-past
returns-clause-past c = λ no. absurd (no (c.if-not-has_all.ensures.yes tt))
