use Rattle.std.proofs.Common.{◌≡◌, ℕ, ◌&&◌, List, take, sym, ◌∙◌, subst, ap₂}
use Rattle.domain.specs.Variables.{widest}
use Rattle.families.specs.Masks.{cut}
use Rattle.rows.specs.Cores.{Full}
use Rattle.rows.specs.Rows.{read as read_row}
use Rattle.rows.proofs.Readings.{stored, read_narrow, read_fits, read_cored}
use Rattle.formulas.specs.Formulas.{read, backed}
use Rattle.formulas.specs.Rules.{BackRule}
use Rattle.formulas.proofs.Closure.{backed_fits, backed_cored}
use Rattle.formulas.specs.Laws.Rules.{backed_rule}
use Rattle.formulas.proofs.models.Models.backed.Goals as goal

pub returns : goal.returns
returns c =
    let v = c.args.self.now in
    let e = c.args.end.now in
    let a = read v in
    let b = read e in
    let args : List ℕ = take widest c.args.args.now in
    let (within, placed) = c.if-not-matches.ensures.yes tt in
    let reads : read_row Full c.new.result ≡ backed a args b =
    stored Full c.new.result (backed a args b) c.new.ensures c.width.ensures (read_narrow v.row)
    (backed_fits a args b (read_fits Full v.row)) (backed_cored a args b within placed (read_cored Full v.row) (read_cored Full e.row))
    (λ g l. c.viewed_in-models.ensures g ∙ ap₂ ◌&&◌ (c.sets.ensures g) (c.sets-2.ensures (cut args g))) in
    record { reads = λ _. reads; rule = λ _. subst (BackRule a args b) (sym reads) (backed_rule a args b); past = λ no. absurd (no (within, placed)) }
