use Rattle.std.proofs.Common.{◌≡◌, ℕ, Bool, ◌&&◌, T, ap, ◌∙◌}
use Rattle.domain.proofs.Booleans.{and_split, and_pair}
use Rattle.families.specs.Masks.{bit}
use Rattle.families.specs.Words.{holds}
use Rattle.rows.specs.Cores.{Empty}
use Rattle.rows.proofs.Readings.{read_fits, read_cored}
use Rattle.sharing.specs.Sharing.{read, Apart}
use Rattle.sharing.specs.Laws.Exactness.{apart_exact}
use Rattle.sharing.proofs.Steps.{none_left}
use Rattle.sharing.proofs.groups.Groups.none_has_both.Goals as goal

pub returns : goal.returns
returns c =
    let row = c.args.self.now.row in
    let a = read c.args.self.now in
    let x : ℕ = c.args.x in
    let y : ℕ = c.args.y in
    let exact = apart_exact a x y (read_fits Empty row) (read_cored Empty row) in
    let left : (g : ℕ) → holds c.having.result g ≡ ((a.has g && bit g x) && bit g y) =
    λ g. c.having.ensures g ∙ ap (λ (b : Bool). b && bit g y) (c.holding.ensures g) in
    let none = none_left (λ g. a.has g && bit g x) (λ g. bit g y) left in
    let yes : T c.is_empty.result → Apart a x y =
    λ t g held with_x with_y. none.0 (c.is_empty.ensures.yes t) g (and_pair (a.has g) (bit g x) held with_x) with_y in
    let only : Apart a x y → T c.is_empty.result =
    λ apart. c.is_empty.ensures.only (none.1 (λ g both with_y. let (held, with_x) = and_split (a.has g) (bit g x) both in apart g held with_x with_y)) in
    record { yes = yes; only = only; always = λ t. exact.0 (yes t); exact = λ always. only (exact.1 always) }
