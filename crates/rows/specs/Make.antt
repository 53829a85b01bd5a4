-- What is made of listed sets, and when that is refused.
use Rattle.std.specs.Prelude.{◌≡◌, ℕ, ◌≤◌, Result, MatchResult}
use Rattle.domain.specs.declared.refusal.Refusal.{Refusal}
use Rattle.domain.specs.Variables.{widest}
use Rattle.families.specs.Listings.{Listing, InBounds, Meant, Refused}
use Rattle.rows.specs.Cores.{Core, core}
use Rattle.rows.specs.declared.row.Row.{Row}
use Rattle.rows.specs.Rows.{read}
use Rattle.rows.specs.Values.{Value, Gives}

-- the value of never, or of the sets listed with the core
abbrev pub Meaning : Core → ℕ → Listing → Value → Type 0
Meaning c n l a = (n ≤ widest) × InBounds n l × Gives n (Meant (core c n) l) a

-- The value of what is meant. Where a test fails, the refusal is that of the first such test. `reads` gives the value that is
-- read off its words.
abbrev pub MakesValue : Core → {Words : Type 0} → (Words → Value) → ℕ → Listing → Result Words Refusal → Type 0
MakesValue c reads n l r = MatchResult r (λ w. Meaning c n l (reads w)) (λ e. Refused n l e)

-- the row of what is meant, or the refusal
abbrev pub MakesRow : {K : Type 0} → Core → ℕ → Listing → Result (Row K) Refusal → Type 0
MakesRow c n l r = MakesValue c (read c) n l r

-- The place holds what is meant, or is as it was where a test fails. `reads` gives the value that is read off it.
abbrev pub Makes : Core → {Words : Type 0} → (Words → Value) → ℕ → Listing → Words → Result (Unit {0}) Refusal → Words → Type 0
Makes c reads n l before r after = MatchResult r (λ _. Meaning c n l (reads after)) (λ e. Refused n l e × (after ≡ before))
