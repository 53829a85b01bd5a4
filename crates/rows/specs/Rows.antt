-- Values as they lie in rows: a width and a family. Whatever lies there, a lawful value is read off it.
use Rattle.std.specs.Prelude.{◌≡◌, ℕ, ◌^◌, min, Bool, ◌&&◌, T, List, length, nat_lt}
use Rattle.domain.specs.Variables.{Below, widest}
use Rattle.families.specs.declared.family.Family.{Family}
use Rattle.families.specs.Words.{holds}
use Rattle.rows.specs.Cores.{Core, Empty, Full, core}
use Rattle.rows.specs.declared.row.Row.{Row}
use Rattle.rows.specs.Values.{Value, never, viewed, ViewRule}

-- ---- the core

-- the core is there if any set is
abbrev pub Cored : Core → Value → Type 0
Cored c a = (g : ℕ) → T (a.has g) → T (a.has (core c a.width))

-- cut down to xs, the core of the sets of variables below n is a core again
abbrev pub Keeps : Core → ℕ → List ℕ → Type 0
Keeps Empty n xs = Unit {0}
Keeps Full n xs = Below n xs

-- ---- what is read off a row

-- a width past the largest reads as the largest
abbrev pub read_width : {K : Type 0} → Row K → ℕ
read_width r = min r.width widest

-- a set past the width is not read, and none at all where the core is missing
unfoldable pub read_has : {K : Type 0} → Core → Row K → ℕ → Bool
read_has c r g = nat_lt g (2 ^ read_width r) && (holds r.map (core c (read_width r)) && holds r.map g)

abbrev pub read : {K : Type 0} → Core → Row K → Value
read c r = record { width = read_width r; has = read_has c r }

-- the family is what is read off the row
abbrev pub Off : {K : Type 0} → Core → Row K → Family → Type 0
Off c r f = (g : ℕ) → holds f g ≡ (read c r).has g

-- ---- a view, where the core is kept, and where it is lost

abbrev pub ViewReads : Core → Value → List ℕ → Value → Type 0
ViewReads c a xs r = Keeps c a.width xs → r ≡ viewed a xs

abbrev pub ViewFollows : Core → Value → List ℕ → Value → Type 0
ViewFollows c a xs r = Keeps c a.width xs → ViewRule a xs r

abbrev pub ViewLost : Core → Value → List ℕ → Value → Type 0
ViewLost c a xs r = (Keeps c a.width xs → ⊥) → r ≡ never (length xs)
