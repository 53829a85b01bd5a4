use Rattle.std.proofs.Common.{◌≡◌, take}
use Rattle.families.specs.Masks.{cut}
use Rattle.families.proofs.mask.cut.Given as goal

abbrev pub invariant-loop-i : goal.invariant-loop-i
invariant-loop-i l = l.places ≡ cut (take l.i l.x-items) l.g
