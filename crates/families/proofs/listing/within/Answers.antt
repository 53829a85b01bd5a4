use Rattle.families.proofs.Listings.{within_more, within_at}
use Rattle.families.proofs.listing.within.Goals as goal

pub returns-then-not-below : goal.returns-then-not-below
returns-then-not-below c = record {
  yes = λ t. absurd t;
  only = λ all.
      c.if-not-below.ensures.only
      (within_at c.args.n c.loop-set.set-index c.args.sets.now _ c.loop-set-test.true all);
}

pub loop-set-preserved : goal.loop-set-preserved
loop-set-preserved c =
    within_more c.args.n c.loop-set.set-index c.args.sets.now _ c.loop-set-test.true c.loop-set.invariant
    (c.if-not-below.ensures.yes tt)
