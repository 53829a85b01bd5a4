use Rattle.std.proofs.Common.{◌≡◌, drop}
use lib.Bits.{bit_or}
use Rattle.families.specs.Masks.{coded}
use Rattle.families.proofs.mask.of.Given as goal

-- what is still to come makes up the rest
abbrev pub invariant-loop-x : goal.invariant-loop-x
invariant-loop-x l = bit_or l.all (coded (drop l.x-index l.xs)) ≡ coded l.xs
