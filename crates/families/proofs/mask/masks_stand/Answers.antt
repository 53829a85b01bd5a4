use Rattle.families.proofs.Masks.{same_bits, alone_bits, coded_bits, bit_cut}
use Rattle.families.proofs.Overlaps.{overlaps_bits}
use Rattle.families.proofs.Ranges.{bit_whole}
use Rattle.families.proofs.Tests.{meets_some, some_meets, covers_each, each_covers}
use Rattle.families.proofs.mask.masks_stand.Goals as goal

pub returns : goal.returns
returns c = record {
  same = λ g h each. same_bits g h (λ i. (each i).0) (λ i. (each i).1);
  alone = alone_bits;
  whole = bit_whole;
  coded = coded_bits;
  cut = bit_cut;
  meets = λ ys g. (meets_some ys g, λ k. some_meets ys g k.0 k.1 k.2);
  covers = λ ys g. (covers_each ys g, each_covers ys g);
  overlaps = overlaps_bits;
}
