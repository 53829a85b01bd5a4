use Rattle.std.proofs.Common.{◌≡◌, ℕ, ltb}
use Rattle.families.specs.Words.{holds}
use Rattle.families.proofs.family.Family.all.Given as goal

-- those below it are in
abbrev pub invariant-loop-set : goal.invariant-loop-set
invariant-loop-set l = (h : ℕ) → holds l.every h ≡ ltb h l.set
