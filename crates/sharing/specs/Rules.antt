-- The functions of sharing groups in plain words: which groups each gives, by selections of groups.
use Rattle.std.specs.Prelude.{◌≡◌, ℕ, ◌^◌, ◌<◌, ◌≤◌, true, T, ◌⊎◌, List}
use Rattle.families.specs.Masks.{bit, cut, meets}
use Rattle.families.specs.Unions.{Selection, One}
use Rattle.rows.specs.Values.{Value, Gives}
use Rattle.sharing.specs.Sharing.{touches}

-- a group of a that has x or meets ys
abbrev pub Touched : Value → ℕ → List ℕ → ℕ → Type 0
Touched a x ys g = T (a.has g) × T (touches x ys g)

-- A group stays that lacks x and misses ys. Of the others, each union comes in of a selection in which one has x and
-- one meets ys; one group may do both.
abbrev pub TieRule : Value → ℕ → List ℕ → Value → Type 0
TieRule a x ys r = Gives a.width (λ h.
    (T (a.has h) × (T (bit h x) → ⊥) × (T (meets ys h) → ⊥))
    ⊎ ((s : Selection (Touched a x ys) h) × One (λ g. bit g x) s.sets × One (meets ys) s.sets)) r

-- the groups, and each new variable alone; never stays never
abbrev pub EnterRule : Value → ℕ → Value → Type 0
EnterRule a v r = Gives v (λ h.
    T (a.has 0) × (T (a.has h) ⊎ ((i : ℕ) × (a.width ≤ i) × (i < v) × (h ≡ 2 ^ i)))) r

-- a group of a that meets an argument
abbrev pub Passed : Value → List ℕ → ℕ → Type 0
Passed a args g = T (a.has g) × T (meets args g)

-- Never, where a or b is. Else a group stays that meets no argument; of the others, each union comes in of one or more
-- whose view at the arguments b has.
abbrev pub BackRule : Value → List ℕ → Value → Value → Type 0
BackRule a args b r = Gives a.width (λ h.
    T (a.has 0) × T (b.has 0)
    × ((T (a.has h) × (T (meets args h) → ⊥))
    ⊎ ((s : Selection (Passed a args) h) × One (λ g. true) s.sets × T (b.has (cut args h))))) r
