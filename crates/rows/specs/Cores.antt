-- The set that every lawful value of a domain has, if it has any: the empty one, or that of all variables.
use Rattle.std.specs.Prelude.{ℕ}
use Rattle.families.specs.Masks.{whole}

pub data Core : Type 0 where
  Empty : Core
  Full : Core

-- the core of the sets of variables below n
abbrev pub core : Core → ℕ → ℕ
core Empty n = 0
core Full n = whole n
