use Rattle.std.proofs.Common.{◌≡◌}
use Rattle.families.specs.Members.{sets_left}
use Rattle.families.proofs.iter.SetsIterator.next.Given as goal

-- those that are left are still all
abbrev pub invariant-loop-k : goal.invariant-loop-k
invariant-loop-k l = (l.self-inside.word ≡ l.k) × (sets_left l.k l.self-inside.left l.self-inside.family.now ≡ l.fn.self)
