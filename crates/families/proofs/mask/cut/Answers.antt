use Rattle.std.proofs.Common.{ℕ, ◌^◌, ◌<◌, ◌≤◌, List, length, get_or, ap, ◌∙◌, arith}
use lib.Bits.{bit_or}
use Rattle.std.proofs.lemmas.Nat.{one_shl}
use Rattle.std.proofs.lemmas.List.{length-take}
use Rattle.domain.specs.Variables.{widest}
use Rattle.families.specs.Masks.{bit}
use Rattle.domain.proofs.Booleans.{shown, denied}
use Rattle.families.proofs.Loops.{cut_in, cut_out}
use Rattle.families.proofs.mask.cut.Goals as goal
use Rattle.families.proofs.mask.cut.Goals.{then-contains, else-contains}

pub loop-i-preserved : goal.loop-i-preserved
loop-i-preserved c =
    let xs : List ℕ = c.first-x-items.result.now in
    let k : ℕ = c.loop-i.i in
    let g : ℕ = c.args.g in
    let here = bit g (get_or xs k 0) in
    let low : k < length xs = c.loop-i-test.true in
    let most : length xs ≤ widest = rw (c.first-x-items.ensures, length-take) (omega arith) in
    let few : k < 64 = omega arith in
    elim c.if-contains.branch [
      | then-contains w ↦
          w.places-is ∙ ap (λ (m : ℕ). bit_or c.loop-i.places m) (one_shl k 64 few)
          ∙ ap (λ (m : ℕ). bit_or m (2 ^ k)) c.loop-i.invariant ∙ cut_in xs k g low (shown here w.if-contains.ensures)
      | else-contains w ↦ w.places-is ∙ c.loop-i.invariant ∙ cut_out xs k g low (denied here w.if-contains.ensures)
    ]
