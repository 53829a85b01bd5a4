use Rattle.std.proofs.Common.{take}
use Rattle.families.specs.Listings.{Within}
use Rattle.families.proofs.listing.within.Given as goal

abbrev pub invariant-loop-set : goal.invariant-loop-set
invariant-loop-set l = Within l.n (take l.set-index l.sets)
