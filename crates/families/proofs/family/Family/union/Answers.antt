use Rattle.std.proofs.Common.{◌/◌, ◌||◌, sym, ◌∙◌, ap₂, arith}
use Rattle.families.specs.Words.{word, holds}
use Rattle.families.proofs.Words.{by_words, holds_lies, holds_past, lies_or}
use Rattle.families.proofs.family.Family.union.Goals as goal

pub returns : goal.returns
returns c =
    let a = c.args.self.now in
    let b = c.args.other.now in
    by_words (record { words = c.either.result }) (λ g. holds a g || holds b g)
    (λ g l.
    lies_or a.words b.words c.either.result g (c.either.ensures (g / word) (omega arith))
    ∙ ap₂ ◌||◌ (sym (holds_lies a g l)) (sym (holds_lies b g l)))
    (λ g l. ap₂ ◌||◌ (holds_past a g l) (holds_past b g l))
