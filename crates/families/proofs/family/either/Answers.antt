use Rattle.std.proofs.Common.{◌≡◌, ℕ, List, get_or, rules, arith}
use lib.Bits.{bit_or}
use Rattle.families.proofs.Words.{from_fn_at}
use Rattle.families.proofs.family.either.Goals as goal

pub returns : goal.returns
returns c k few =
    let us : List ℕ = c.args.words.now in
    let vs : List ℕ = c.args.others.now in
    from_fn_at c.from_fn.ensures.items (λ i y. y ≡ bit_or (get_or us i 0) (get_or vs i 0)) (λ i y q called. search rules) k (omega arith)
