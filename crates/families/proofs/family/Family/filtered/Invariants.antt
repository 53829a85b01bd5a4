use Rattle.std.proofs.Common.{ℕ, T, true}
use Rattle.domain.specs.Variables.{Listed}
use Rattle.families.specs.Words.{holds}
use Rattle.families.proofs.family.Family.filtered.Given as goal

-- of the sets so far, those that pass
abbrev pub invariant-loop-g : goal.invariant-loop-g
invariant-loop-g g l =
    goal.F-IsAlwaysCallable g l.passes
    × ((h : ℕ) → T (holds l.passing h) → Listed h l.yielded × goal.F-post g l.passes h true)
    × ((h : ℕ) → Listed h l.yielded → goal.F-post g l.passes h (holds l.passing h))
