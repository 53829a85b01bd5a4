use Rattle.std.proofs.Common.{ℕ, ◌+◌, ◌*◌, ◌/◌, ◌^◌, ◌<◌, ◌≤◌, T, get_or, sym, subst, arith}
use Rattle.families.specs.Words.{word, sets, word_count}
use Rattle.families.proofs.Words.{holds_low, holds_lies, or_within, within_or}
use Rattle.families.proofs.family.Family.within.Goals as goal

pub returns-then-self-k : goal.returns-then-self-k
returns-then-self-k c =
    let a = c.args.self.now in
    let b = c.args.other.now in
    let k = c.loop-k.k in
    let few : k < word_count = c.loop-k-test.true in
    let fits : get_or a.words k 0 < 2 ^ word = omega arith in
    record {
      yes = λ t. absurd t;
      only = λ each.
          c.if-self-k.true
          (within_or a.words b.words k fits
          (λ i l t.
          let g : ℕ = word * k + i in
          let low : g < sets = omega arith in
          subst T (holds_lies b g low) (each g (subst T (sym (holds_lies a g low)) t))));
    }

pub returns : goal.returns
returns c =
    let a = c.args.self.now in
    let b = c.args.other.now in
    let done : word_count ≤ c.loop-k.k = c.loop-k-test.false in
    record {
      yes = λ t g held.
          let low = holds_low a g held in
          subst T (sym (holds_lies b g low))
          (or_within a.words b.words g (c.loop-k.invariant (g / word) (omega arith)) (subst T (holds_lies a g low) held));
      only = λ each. tt;
    }
