-- The number of each refusal.
use Rattle.std.specs.Prelude.{ℕ}
use Rattle.domain.specs.declared.refusal.Refusal.{Refusal}
use Rattle.domain.specs.declared.refusal.Refusal.TheVariants.{FewRows, ManyArguments, ManyPredicates, NoPredicate, VariableCount, ManyGoals, Variable, Callee, Repeated, ManyClauses, NoClause, MarkedSo, NoRow, Width, Bare, NotPassed, ClauseCut}

abbrev pub number : Refusal → ℕ
number FewRows = 1
number ManyArguments = 2
number ManyPredicates = 3
number NoPredicate = 4
number VariableCount = 5
number ManyGoals = 6
number Variable = 7
number Callee = 8
number Repeated = 9
number ManyClauses = 10
number NoClause = 11
number MarkedSo = 12
number NoRow = 13
number Width = 14
number Bare = 15
number NotPassed = 16
number ClauseCut = 17
