use Rattle.std.proofs.Common.{◌≡◌, ℕ, List, take, sym, subst}
use Rattle.domain.specs.Variables.{widest}
use Rattle.rows.specs.Cores.{Empty}
use Rattle.rows.proofs.Readings.{stored, read_narrow, read_fits, read_cored}
use Rattle.sharing.specs.Sharing.{read, backed}
use Rattle.sharing.specs.Rules.{BackRule}
use Rattle.sharing.proofs.Closure.{backed_fits, backed_cored}
use Rattle.sharing.proofs.Rules.{backed_rule}
use Rattle.sharing.proofs.Steps.{backed_is}
use Rattle.sharing.proofs.groups.Groups.backed.Goals as goal

pub returns : goal.returns
returns c =
    let v = c.args.self.now in
    let a = read v in
    let b = read c.args.end.now in
    let args : List ℕ = take widest c.args.args.now in
    let fits = read_fits Empty v.row in
    let full = read_cored Empty v.row in
    let is =
    backed_is a args b c.unpassed-kept.result c.returned-returned.result c.union.result full c.requires c.unpassed-kept.ensures c.returned-returned.ensures c.union.ensures in
    let reads : read (record { row = c.new.result }) ≡ backed a args b =
    stored Empty c.new.result (backed a args b) c.new.ensures c.width.ensures (read_narrow v.row) (backed_fits a args b fits)
    (backed_cored a args b full) (λ h low. is h) in
    record { reads = reads; rule = subst (BackRule a args b) (sym reads) (backed_rule a fits args b) }
