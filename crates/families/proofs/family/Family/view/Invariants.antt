use Rattle.std.proofs.Common.{◌≡◌, ℕ, T, ◌↔◌, take}
use Rattle.domain.specs.Variables.{Listed, widest}
use Rattle.families.specs.Masks.{cut}
use Rattle.families.specs.Words.{holds}
use Rattle.families.proofs.family.Family.view.Given as goal

-- the cuts of the sets so far
abbrev pub invariant-loop-g : goal.invariant-loop-g
invariant-loop-g l = (h : ℕ) → T (holds l.cuts h) ↔ ((g : ℕ) × Listed g l.yielded × (h ≡ cut (take widest l.xs) g))
