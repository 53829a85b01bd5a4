use Rattle.std.proofs.Common.{◌/◌, ◌<◌, ◌&&◌, ◌||◌, eqb, ltb, length, sym, ◌∙◌, ap₂, arith}
use Rattle.std.proofs.lemmas.Bool.{lt-ltb, ne_eqb, and_left}
use Rattle.families.specs.Words.{word, sets, holds}
use Rattle.families.proofs.Words.{by_words, holds_lies, holds_past, lies_put}
use Rattle.domain.proofs.Booleans.{and_true}
use Rattle.families.proofs.family.Family.insert.Goals as goal

pub returns-then-g-room : goal.returns-then-g-room
returns-then-g-room c =
    let f = c.args.self.now in
    let g = c.args.g in
    let low : g < sets = omega arith in
    let there : g / word < length f.words = omega arith in
    by_words _ (λ h. holds f h || (eqb h g && ltb g sets))
    (λ h l.
    lies_put f.words g there h
    ∙ ap₂ ◌||◌ (sym (holds_lies f h l)) (and_true (eqb h g) (ltb g sets) (lt-ltb g sets low)))
    (λ h l. ap₂ ◌||◌ (holds_past f h l) (and_left (eqb h g) (ltb g sets) (ne_eqb h g (λ e. omega arith))))
