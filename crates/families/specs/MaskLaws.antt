-- What the masks of this crate are, variable by variable.
use Rattle.std.specs.Prelude.{◌≡◌, ℕ, ◌<◌, T, ◌↔◌, List, length, slice_index}
use Rattle.domain.specs.Variables.{Listed, widest}
use Rattle.families.specs.Masks.{bit, cut, meets, covers, overlaps, alone, coded, whole}

-- a mask is given by its variables
abbrev pub SameLaw : Type 0
SameLaw = (g h : ℕ) → ((i : ℕ) → T (bit g i) ↔ T (bit h i)) → g ≡ h

-- the mask of x has x and nothing else
abbrev pub AloneLaw : Type 0
AloneLaw = (x i : ℕ) → T (bit (alone x) i) ↔ ((i ≡ x) × (i < widest))

-- the mask of all variables below n has just those
abbrev pub WholeLaw : Type 0
WholeLaw = (n i : ℕ) → T (bit (whole n) i) ↔ (i < n)

-- the mask of listed variables has just those
abbrev pub CodedLaw : Type 0
CodedLaw = (xs : List ℕ) (i : ℕ) → T (bit (coded xs) i) ↔ (Listed i xs × (i < widest))

-- place i of a cut is the variable that is listed i-th
abbrev pub CutLaw : Type 0
CutLaw = (xs : List ℕ) (g i : ℕ) → T (bit (cut xs g) i) ↔ ((i < length xs) × T (bit g (slice_index xs i)))

-- a set meets listed variables where it has one of them
abbrev pub MeetsLaw : Type 0
MeetsLaw = (ys : List ℕ) (g : ℕ) → T (meets ys g) ↔ ((y : ℕ) × Listed y ys × T (bit g y))

-- a set covers listed variables where it has each of them
abbrev pub CoversLaw : Type 0
CoversLaw = (ys : List ℕ) (g : ℕ) → T (covers ys g) ↔ ((y : ℕ) → Listed y ys → T (bit g y))

-- two sets overlap where they have a variable in common
abbrev pub OverlapsLaw : Type 0
OverlapsLaw = (g h : ℕ) → T (overlaps g h) ↔ ((i : ℕ) × T (bit g i) × T (bit h i))
