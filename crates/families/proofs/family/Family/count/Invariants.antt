use Rattle.std.proofs.Common.{◌≡◌}
use Rattle.families.proofs.Words.{count_words}
use Rattle.families.proofs.family.Family.count.Given as goal

-- the ones in the words so far
abbrev pub invariant-loop-word : goal.invariant-loop-word
invariant-loop-word l = l.n ≡ count_words l.word-index l.self.words
