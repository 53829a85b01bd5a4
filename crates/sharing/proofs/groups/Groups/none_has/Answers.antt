use Rattle.std.proofs.Common.{T}
use Rattle.families.specs.Masks.{bit}
use Rattle.rows.specs.Cores.{Empty}
use Rattle.rows.proofs.Readings.{read_fits, read_cored}
use Rattle.sharing.specs.Sharing.{read, Ground}
use Rattle.sharing.specs.Laws.Exactness.{ground_exact}
use Rattle.sharing.proofs.Steps.{none_left}
use Rattle.sharing.proofs.groups.Groups.none_has.Goals as goal

pub returns : goal.returns
returns c =
    let row = c.args.self.now.row in
    let a = read c.args.self.now in
    let exact = ground_exact a c.args.x (read_fits Empty row) (read_cored Empty row) in
    let none = none_left a.has (λ g. bit g c.args.x) c.holding.ensures in
    let yes : T c.is_empty.result → Ground a c.args.x = λ t. none.0 (c.is_empty.ensures.yes t) in
    let only : Ground a c.args.x → T c.is_empty.result = λ ground. c.is_empty.ensures.only (none.1 ground) in
    record { yes = yes; only = only; always = λ t. exact.0 (yes t); exact = λ always. only (exact.1 always) }
