use Rattle.std.proofs.Common.{◌≡◌, ℕ, List, sym, subst, arith}
use Rattle.domain.specs.Variables.{Below, widest}
use Rattle.families.proofs.Overlaps.{covers_coded}
use Rattle.rows.specs.Cores.{Full}
use Rattle.rows.specs.Rows.{read as read_row}
use Rattle.rows.proofs.Readings.{stored, read_narrow, read_fits, read_cored}
use Rattle.formulas.specs.Formulas.{read, tied}
use Rattle.formulas.specs.Rules.{TieRule}
use Rattle.formulas.proofs.Closure.{tied_fits, tied_cored}
use Rattle.formulas.specs.Laws.Rules.{tied_rule}
use Rattle.formulas.proofs.models.Models.tied.Goals as goal

pub returns : goal.returns
returns c =
    let v = c.args.self.now in
    let a = read v in
    let x : ℕ = c.args.x in
    let ys : List ℕ = c.args.ys.now in
    let narrow = read_narrow v.row in
    let (x_below, ys_below) = c.if-not-has_sides.ensures.yes tt in
    let low : Below widest ys = λ y l. let below = ys_below y l in omega arith in
    let made = rw c.of.ensures at c.agreeing.ensures in
    let reads : read_row Full c.new.result ≡ tied a x ys =
    stored Full c.new.result (tied a x ys) c.new.ensures c.width.ensures narrow
    (tied_fits a x ys (read_fits Full v.row)) (tied_cored a x ys x_below ys_below (read_cored Full v.row))
    (λ g l. rw (covers_coded ys low g) at (made g)) in
    record { reads = λ _. reads; rule = λ _. subst (TieRule a x ys) (sym reads) (tied_rule a x ys); past = λ no. absurd (no (x_below, ys_below)) }
