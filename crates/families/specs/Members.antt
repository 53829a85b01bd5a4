-- The sets of a family as a list, by rising mask.
use Rattle.std.specs.Prelude.{ℕ, zero, suc, ◌+◌, ◌-◌, ◌*◌, ◌%◌, ◌<◌, Bool, cond, T, ◌↔◌, List, [], ◌∷◌, nat_lt}
use Rattle.domain.specs.Variables.{Listed}
use Rattle.families.specs.Masks.{bit}
use Rattle.families.specs.Words.{word, holds, sets}
use Rattle.families.specs.declared.family.Family.{Family}

-- of the n numbers from k on, those that pass
unfoldable pub passing : ℕ → ℕ → (ℕ → Bool) → List ℕ
passing zero k p = []
passing (suc n) k p = cond (p k) (k ∷ passing n (k + 1) p) (passing n (k + 1) p)

-- the sets of f from k on
abbrev pub sets_from : ℕ → Family → List ℕ
sets_from k f = passing (sets - k) k (holds f)

abbrev pub sets_of : Family → List ℕ
sets_of f = sets_from 0 f

-- Of the sets from word k on: in that word those whose bits are 1 in `left`, and in a later one those of f.
abbrev pub left_has : ℕ → ℕ → Family → ℕ → Bool
left_has k left f g = cond (nat_lt g (word * (k + 1))) (bit left (g % word)) (holds f g)

abbrev pub sets_left : ℕ → ℕ → Family → List ℕ
sets_left k left f = passing (sets - word * k) (word * k) (left_has k left f)

-- just the sets of f are listed
abbrev pub ListsAll : Family → List ℕ → Type 0
ListsAll f gs = (g : ℕ) → Listed g gs ↔ T (holds f g)

-- each is below those after it
abbrev pub Rising : List ℕ → Type 0
Rising [] = Unit {0}
Rising (g ∷ gs) = ((h : ℕ) → Listed h gs → g < h) × Rising gs
