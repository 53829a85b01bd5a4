use Rattle.std.proofs.Common.{ℕ, T, ◌↔◌, subst}
use Rattle.families.specs.Listings.{Meant}
use Rattle.families.specs.Words.{holds}
use Rattle.rows.proofs.Made.{gives_meant}
use Rattle.rows.proofs.row.Row.made.Goals as goal

pub returns : goal.returns
returns g c =
    let (narrow, bounds, is) = c.requires.listed in
    let n = c.args.width in
    let l = c.args.sets in
    let f = c.args.map in
    let meant = subst (λ (k : ℕ). (h : ℕ) → T (holds f h) ↔ Meant k l h) c.requires.core is in
    (narrow, bounds, gives_meant g.K.Core.core c.new.result n f c.new.ensures narrow l bounds meant)
