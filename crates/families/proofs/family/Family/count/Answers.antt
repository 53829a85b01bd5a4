use Rattle.std.proofs.Common.{◌≡◌, ℕ, ◌+◌, ◌*◌, ◌^◌, ◌<◌, List, get_or, sym, ap, ◌∙◌, arith}
use Rattle.families.specs.Masks.{count}
use Rattle.families.specs.Words.{word, lies, holds, sets}
use Rattle.families.proofs.Counts.{count_le, count_alike}
use Rattle.families.proofs.Words.{count_words_is, count_word, holds_lies}
use Rattle.families.proofs.family.Family.count.Goals as goal

pub overflow_add-n : goal.overflow_add-n
overflow_add-n c =
    let ws : List ℕ = c.args.self.now.words in
    let k : ℕ = c.loop-word.word-index in
    let fits : get_or ws k 0 < 2 ^ word = omega arith in
    let here = count_word ws k fits in
    let so_far = count_words_is k ws in
    let most = count_le (word * (k + 1)) (lies ws) in
    omega arith

pub loop-word-preserved : goal.loop-word-preserved
loop-word-preserved c =
    let ws : List ℕ = c.args.self.now.words in
    let k : ℕ = c.loop-word.word-index in
    let fits : get_or ws k 0 < 2 ^ word = omega arith in
    let here = count_word ws k fits in
    let so_far = count_words_is k ws in
    let next = count_words_is (k + 1) ws in
    omega arith

pub returns : goal.returns
returns c =
    let f = c.args.self.now in
    let done : word * c.loop-word.word-index ≡ sets = omega arith in
    c.loop-word.invariant ∙ count_words_is c.loop-word.word-index f.words ∙ ap (λ (n : ℕ). count n (lies f.words)) done
    ∙ count_alike sets (lies f.words) (holds f) (λ g l. sym (holds_lies f g l))
