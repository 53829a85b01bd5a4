use Rattle.std.proofs.Common.{◌≡◌, ℕ, ◌^◌, ◌&&◌, ◌||◌, eqb, leb}
use Rattle.families.specs.Masks.{any}
use Rattle.families.specs.Words.{holds}
use Rattle.sharing.proofs.parts.with_each.Given as goal

-- those below i are in
abbrev pub invariant-loop-i : goal.invariant-loop-i
invariant-loop-i l = (h : ℕ) → holds l.all h ≡ (holds l.initial.all h || any l.i (λ j. leb l.from j && eqb h (2 ^ j)))
