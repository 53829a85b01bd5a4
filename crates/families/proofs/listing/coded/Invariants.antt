use Rattle.std.proofs.Common.{ℕ, T, ◌↔◌, take}
use Rattle.families.specs.Listings.{Codes}
use Rattle.families.specs.Words.{holds}
use Rattle.families.proofs.listing.coded.Given as goal

-- the sets so far
abbrev pub invariant-loop-set : goal.invariant-loop-set
invariant-loop-set l = (g : ℕ) → T (holds l.made g) ↔ Codes (take l.set-index l.sets) g
