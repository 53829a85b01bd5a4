-- Sets of variables, coded as masks: variable i is in g where bit i of g is 1. Tests and counts over the numbers below
-- a bound.
use Rattle.std.specs.Prelude.{ℕ, zero, suc, ◌+◌, ◌-◌, ◌*◌, ◌/◌, ◌%◌, ◌^◌, Bool, true, false, cond, not, ◌&&◌, ◌||◌, List, [], ◌∷◌, map, ◌==◌, bit_and, bit_or, nat_lt}
use Rattle.domain.specs.Variables.{widest}

-- variable i is in g
abbrev pub bit : ℕ → ℕ → Bool
bit g i = g / 2 ^ i % 2 == 1

-- the mask with these bits, the lowest first
abbrev pub pack : List Bool → ℕ
pack [] = 0
pack (b ∷ bs) = 2 * pack bs + cond b 1 0

-- g at the variables listed, numbered by position
abbrev pub cut : List ℕ → ℕ → ℕ
cut xs g = pack (map (bit g) xs)

-- all variables below n
abbrev pub whole : ℕ → ℕ
whole n = 2 ^ n - 1

-- the variable x alone; nothing where it is not below the largest width
abbrev pub alone : ℕ → ℕ
alone x = cond (nat_lt x widest) (2 ^ x) 0

-- the variables listed, as far as they are below the largest width
abbrev pub coded : List ℕ → ℕ
coded [] = 0
coded (x ∷ xs) = bit_or (alone x) (coded xs)

-- some variable listed is in g
abbrev pub meets : List ℕ → ℕ → Bool
meets [] g = false
meets (y ∷ ys) g = bit g y || meets ys g

-- every variable listed is in g
abbrev pub covers : List ℕ → ℕ → Bool
covers [] g = true
covers (y ∷ ys) g = bit g y && covers ys g

-- some variable is in both
abbrev pub overlaps : ℕ → ℕ → Bool
overlaps g h = not (bit_and g h == 0)

-- some number below n passes
abbrev pub any : ℕ → (ℕ → Bool) → Bool
any zero p = false
any (suc n) p = p n || any n p

-- every number below n passes
abbrev pub all : ℕ → (ℕ → Bool) → Bool
all zero p = true
all (suc n) p = p n && all n p

-- how many numbers below n pass
unfoldable pub count : ℕ → (ℕ → Bool) → ℕ
count zero p = 0
count (suc n) p = cond (p n) 1 0 + count n p

-- of the variables below n, each that is in g is in h
abbrev pub within : ℕ → ℕ → ℕ → Bool
within n g h = all n (λ i. not (bit g i) || bit h i)
