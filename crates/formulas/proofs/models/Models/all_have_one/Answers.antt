use Rattle.std.proofs.Common.{ℕ, T, ◌⊎◌}
use lib.Bits.{bit_or}
use Rattle.families.specs.Masks.{bit, alone}
use Rattle.rows.specs.Cores.{Full}
use Rattle.rows.proofs.Readings.{read_fits, read_cored}
use Rattle.formulas.specs.Formulas.{read, Apart}
use Rattle.formulas.specs.Laws.Exactness.{apart_exact}
use Rattle.formulas.proofs.Steps.{none_left, overlaps_one, read_low}
use Rattle.formulas.proofs.models.Models.all_have_one.Goals as goal

pub returns : goal.returns
returns c =
    let v = c.args.self.now in
    let a = read v in
    let x : ℕ = c.args.x in
    let y : ℕ = c.args.y in
    let left = rw (c.only.ensures, c.only-2.ensures) at c.lacking.ensures in
    let none = none_left a (λ g. T (bit g x) ⊎ T (bit g y)) (bit_or (alone x) (alone y)) left (λ g held. overlaps_one g x y (read_low v.row g held)) in
    let yes : T c.is_empty.result → Apart a x y = λ t. none.0 (c.is_empty.ensures.yes t) in
    let only : Apart a x y → T c.is_empty.result = λ apart. c.is_empty.ensures.only (none.1 apart) in
    let exact = apart_exact a x y (read_fits Full v.row) (read_cored Full v.row) c.requires.x_within c.requires.y_within in
    record { rule = (yes, only); always = λ t. exact.0 (yes t); exact = λ always. only (exact.1 always) }
