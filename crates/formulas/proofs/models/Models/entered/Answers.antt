use Rattle.std.proofs.Common.{◌≡◌, ℕ, min, sym, refl, ◌∙◌, subst, arith}
use Rattle.domain.specs.Variables.{widest}
use Rattle.families.proofs.Ranges.{and_whole}
use Rattle.rows.specs.Cores.{Full}
use Rattle.rows.specs.Rows.{read as read_row}
use Rattle.rows.proofs.Readings.{stored, read_fits, read_cored}
use Rattle.formulas.specs.Formulas.{read, entered}
use Rattle.formulas.specs.Rules.{EnterRule}
use Rattle.formulas.proofs.Closure.{entered_fits, entered_cored}
use Rattle.formulas.specs.Laws.Rules.{entered_rule}
use Rattle.formulas.proofs.Steps.{all_below}
use Rattle.formulas.proofs.models.Models.entered.Goals as goal

pub returns : goal.returns
returns c =
    let r = c.args.self.now in
    let a = read r in
    let v : ℕ = c.args.v in
    let (wide, narrow) = c.requires in
    let clamped : min c.width.result widest ≡ a.width = let e = c.width.ensures in omega arith in
    let made = rw (c.all.ensures, clamped) at c.extending.ensures in
    let reads : read_row Full c.new.result ≡ entered a v =
    stored Full c.new.result (entered a v) c.new.ensures refl narrow (entered_fits a v) (entered_cored a v wide (read_cored Full r.row))
    (λ g l. made g ∙ rw (all_below v narrow g l, and_whole a.width g)) in
    record { reads = reads; rule = subst (EnterRule a v) (sym reads) (entered_rule a (read_fits Full r.row) v) }
