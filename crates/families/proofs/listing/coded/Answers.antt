use Rattle.std.proofs.Common.{sym, subst}
use Rattle.families.specs.Listings.{Coded}
use Rattle.families.specs.Words.{holds}
use Rattle.families.proofs.Masks.{coded_bits}
use Rattle.families.proofs.Listings.{codes_in}
use Rattle.families.proofs.listing.coded.Goals as goal

pub loop-set-preserved : goal.loop-set-preserved
loop-set-preserved c =
    codes_in c.loop-set.set-index c.of.result c.args.sets.now _ c.loop-set-test.true
    (subst (Coded _) (sym c.of.ensures) (coded_bits _))
    (holds c.loop-set.made) (holds c.insert.new.self) c.loop-set.invariant c.insert.ensures
