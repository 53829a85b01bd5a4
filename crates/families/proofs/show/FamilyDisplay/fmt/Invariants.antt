use Rattle.std.proofs.Common.{◌+◌, ◌≤◌, length}
use Rattle.families.specs.Words.{sets}
use Rattle.families.proofs.show.FamilyDisplay.fmt.Given as goal

-- the sets are few
abbrev pub invariant-loop-k : goal.invariant-loop-k
invariant-loop-k g l = l.k + length l.g-iterator ≤ sets
