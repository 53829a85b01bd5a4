-- What the parts of `tie` and `back` make of the groups.
use Rattle.std.specs.Prelude.{◌≡◌, ℕ, not, ◌&&◌, List}
use Rattle.families.specs.declared.family.Family.{Family}
use Rattle.families.specs.Masks.{bit, cut, meets}
use Rattle.families.specs.Words.{holds}
use Rattle.rows.specs.Values.{Value}
use Rattle.sharing.specs.Sharing.{touches, union}

-- ---- of a tie

-- the groups that an equation leaves alone
abbrev pub AreUntouched : Value → ℕ → List ℕ → Family → Type 0
AreUntouched a x ys f = (h : ℕ) → holds f h ≡ (a.has h && not (touches x ys h))

-- The unions that an equation makes. Where a union has x, one of its groups has; where it meets ys, one of them does.
abbrev pub AreJoined : Value → ℕ → List ℕ → Family → Type 0
AreJoined a x ys f = (h : ℕ) → holds f h ≡ (union a (touches x ys) h && (bit h x && meets ys h))

-- ---- of a return

-- the groups that a call leaves alone
abbrev pub AreUnpassed : Value → List ℕ → Family → Type 0
AreUnpassed a args f = (h : ℕ) → holds f h ≡ (a.has h && not (meets args h))

-- The unions that a call makes. Where a union meets the arguments it is one of one group or more.
abbrev pub AreReturned : Value → List ℕ → Value → Family → Type 0
AreReturned a args b f = (h : ℕ) → holds f h ≡ (union a (meets args) h && (meets args h && b.has (cut args h)))
