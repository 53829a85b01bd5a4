use Rattle.std.proofs.Common.{◌≡◌, sym, subst}
use Rattle.rows.specs.Cores.{Empty}
use Rattle.rows.proofs.Readings.{stored, read_narrow, read_fits, read_cored}
use Rattle.sharing.specs.Sharing.{read, tied}
use Rattle.sharing.specs.Rules.{TieRule}
use Rattle.sharing.proofs.Closure.{tied_fits, tied_cored}
use Rattle.sharing.proofs.Rules.{tied_rule}
use Rattle.sharing.proofs.Steps.{tied_is}
use Rattle.sharing.proofs.groups.Groups.tied.Goals as goal

pub returns : goal.returns
returns c =
    let v = c.args.self.now in
    let a = read v in
    let x = c.args.x in
    let ys = c.args.ys.now in
    let fits = read_fits Empty v.row in
    let is = tied_is a x ys c.untouched-kept.result c.args.joined.now c.union.result c.untouched-kept.ensures c.requires c.union.ensures in
    let reads : read (record { row = c.new.result }) ≡ tied a x ys =
    stored Empty c.new.result (tied a x ys) c.new.ensures c.width.ensures (read_narrow v.row) (tied_fits a x ys fits)
    (tied_cored a x ys (read_cored Empty v.row)) (λ h low. is h) in
    record { reads = reads; rule = subst (TieRule a x ys) (sym reads) (tied_rule a fits x ys) }
