-- What the functions on families give: which sets, each by its mask.
use Rattle.std.specs.Prelude.{◌≡◌, ℕ, ◌<◌, Bool, false, ◌&&◌, ◌||◌, T, ◌↔◌, List, ◌==◌, bit_or, nat_lt}
use Rattle.std.specs.List.{fold, filter}
use Rattle.families.specs.Masks.{cut}
use Rattle.families.specs.Members.{sets_of}
use Rattle.families.specs.Unions.{Selection}
use Rattle.families.specs.Words.{holds, sets}
use Rattle.families.specs.declared.family.Family.{Family}

-- no set at all
abbrev pub Nothing : Family → Type 0
Nothing r = (g : ℕ) → holds r g ≡ false

-- every set of variables below the largest width
abbrev pub Everything : Family → Type 0
Everything r = (g : ℕ) → holds r g ≡ nat_lt g sets

-- the sets of f, and g; a set past the largest width is left out
abbrev pub Added : Family → ℕ → Family → Type 0
Added f g r = (h : ℕ) → holds r h ≡ (holds f h || (h == g && nat_lt g sets))

-- the sets of either
abbrev pub Either : Family → Family → Family → Type 0
Either e f r = (g : ℕ) → holds r g ≡ (holds e g || holds f g)

-- each set of e is one of f's
abbrev pub Included : Family → Family → Type 0
Included e f = (g : ℕ) → T (holds e g) → T (holds f g)

-- the sets of f that pass
abbrev pub Part : Family → (ℕ → Bool) → Family → Type 0
Part f p r = (g : ℕ) → holds r g ≡ (holds f g && p g)

-- The sets of f at which a test says yes: `Says g b` where b may be its answer at g.
abbrev pub Passing : Family → (ℕ → Bool → Type 0) → Family → Type 0
Passing f Says r = Included r f × ((g : ℕ) → T (holds f g) → Says g (holds r g))

-- the sets of f, cut down to the variables xs
abbrev pub Cuts : Family → List ℕ → Family → Type 0
Cuts f xs r = (h : ℕ) → T (holds r h) ↔ ((g : ℕ) × T (holds f g) × (h ≡ cut xs g))

-- the union of every selection of sets of f; that of none is the empty set
abbrev pub AllUnions : Family → Family → Type 0
AllUnions f r = (h : ℕ) → T (holds r h) ↔ (Selection (λ g. T (holds f g)) h × (h < sets))

-- the union of the sets of f that lie within h
abbrev pub inner_union : Family → ℕ → ℕ
inner_union f h = fold bit_or 0 (filter (λ g. bit_or g h == h) (sets_of f))
