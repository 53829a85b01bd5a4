-- Lists of variables. The variables of a clause are numbered from 0; a value speaks of those below its width.
use Rattle.std.specs.Prelude.{◌≡◌, ℕ, ◌<◌, ◌⊎◌, List, [], ◌∷◌}

-- the largest width of a value
abbrev pub widest : ℕ
widest = 8

-- n is one of the numbers listed
abbrev pub Listed : ℕ → List ℕ → Type 0
Listed n [] = ⊥
Listed n (x ∷ xs) = (n ≡ x) ⊎ Listed n xs

-- no number stands twice
abbrev pub Different : List ℕ → Type 0
Different [] = Unit {0}
Different (x ∷ xs) = (Listed x xs → ⊥) × Different xs

-- every number listed is below n
abbrev pub Below : ℕ → List ℕ → Type 0
Below n xs = (x : ℕ) → Listed x xs → x < n
