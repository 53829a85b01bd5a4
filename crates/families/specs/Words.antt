-- A family of sets of variables as it lies in words: the set with mask g is bit g of the words in a row.
use Rattle.std.specs.Prelude.{ℕ, ◌/◌, ◌%◌, ◌^◌, Bool, ◌&&◌, List, nat_lt, slice_index}
use Rattle.domain.specs.Variables.{widest}
use Rattle.families.specs.Masks.{bit}
use Rattle.families.specs.declared.family.Family.{Family}

-- the bits of a word
abbrev pub word : ℕ
word = 64

-- how many sets there are of variables below the largest width
abbrev pub sets : ℕ
sets = 2 ^ widest

-- how many words hold a bit for each of them
abbrev pub word_count : ℕ
word_count = sets / word

-- the set g is there; past the last word nothing is
abbrev pub lies : List ℕ → ℕ → Bool
lies ws g = bit (slice_index ws (g / word)) (g % word)

-- the family has the set g, one of those of variables below the largest width
abbrev pub holds : Family → ℕ → Bool
holds f g = nat_lt g sets && lies f.words g
