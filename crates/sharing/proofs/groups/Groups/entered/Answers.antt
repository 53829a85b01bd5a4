use Rattle.std.proofs.Common.{arith, true, ◌≡◌, ℕ, sym, refl, ◌∙◌, subst}
use Rattle.rows.specs.Cores.{Empty}
use Rattle.sharing.specs.Sharing.{read, entered}
use Rattle.sharing.specs.Rules.{EnterRule}
use Rattle.sharing.proofs.Closure.{entered_fits, entered_cored}
use Rattle.rows.proofs.Readings.{stored, read_fits, read_cored}
use Rattle.sharing.proofs.Rules.{entered_rule}
use Rattle.sharing.proofs.groups.Groups.entered.Goals as goal

pub returns : goal.returns
returns c =
    let r = c.args.self.now in
    let a = read r in
    let v : ℕ = c.args.v in
    let empty : a.has 0 ≡ true = grind arith in
    let reads : read (record { row = c.new.result }) ≡ entered a v =
    stored Empty c.new.result (entered a v) c.new.ensures refl c.requires.1 (entered_fits a v c.requires.0 (read_fits Empty r.row))
    (entered_cored a v (read_cored Empty r.row))
    (λ h l. c.with_each-map.ensures h ∙ rw (c.sets-groups.ensures h, c.width.ensures, empty)) in
    record { reads = reads; rule = subst (EnterRule a v) (sym reads) (entered_rule a v) }
