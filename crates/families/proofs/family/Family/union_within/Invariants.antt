use Rattle.std.proofs.Common.{◌≡◌}
use Rattle.families.proofs.Loops.{inner_of}
use Rattle.families.proofs.family.Family.union_within.Given as goal

-- the union of those so far
abbrev pub invariant-loop-g : goal.invariant-loop-g
invariant-loop-g l = l.all ≡ inner_of l.h l.yielded
