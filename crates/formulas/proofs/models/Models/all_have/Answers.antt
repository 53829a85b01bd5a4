use Rattle.std.proofs.Common.{ℕ, T}
use Rattle.families.specs.Masks.{bit, alone}
use Rattle.families.proofs.Overlaps.{overlaps_alone}
use Rattle.rows.specs.Cores.{Full}
use Rattle.rows.proofs.Readings.{read_fits, read_cored}
use Rattle.formulas.specs.Formulas.{read, Ground}
use Rattle.formulas.specs.Laws.Exactness.{ground_exact}
use Rattle.formulas.proofs.Steps.{none_left, read_low}
use Rattle.formulas.proofs.models.Models.all_have.Goals as goal

pub returns : goal.returns
returns c =
    let v = c.args.self.now in
    let a = read v in
    let x : ℕ = c.args.x in
    let left = rw c.only.ensures at c.lacking.ensures in
    let none = none_left a (λ g. T (bit g x)) (alone x) left (λ g held. overlaps_alone g (read_low v.row g held) x) in
    let yes : T c.is_empty.result → Ground a x = λ t. none.0 (c.is_empty.ensures.yes t) in
    let only : Ground a x → T c.is_empty.result = λ ground. c.is_empty.ensures.only (none.1 ground) in
    let exact = ground_exact a x (read_fits Full v.row) (read_cored Full v.row) c.requires in
    record { rule = (yes, only); always = λ t. exact.0 (yes t); exact = λ always. only (exact.1 always) }
