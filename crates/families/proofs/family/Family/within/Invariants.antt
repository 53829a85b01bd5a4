use Rattle.std.proofs.Common.{◌≡◌, ℕ, ◌<◌, get_or}
use lib.Bits.{bit_or}
use Rattle.families.proofs.family.Family.within.Given as goal

-- the words so far lie within
abbrev pub invariant-loop-k : goal.invariant-loop-k
invariant-loop-k l = (k : ℕ) → k < l.k → bit_or (get_or l.self.words k 0) (get_or l.other.words k 0) ≡ get_or l.other.words k 0
