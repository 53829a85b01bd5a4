use Rattle.formulas.proofs.models.Models.has_all.Goals as goal

pub returns : goal.returns
returns c = record {
  yes = λ t. rw (c.width.ensures, c.first.ensures) at (c.below.ensures.yes t);
  only = λ all. c.below.ensures.only (rw (c.width.ensures, c.first.ensures) all);
}
