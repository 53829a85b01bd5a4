-- The domain of ground formulas. A value is a width and a set of models; a model is a set of variables, coded as a mask.
-- A list of terms is described where, under every substitution, the places whose terms have no variables are one of the
-- models.
use Rattle.std.specs.Prelude.{◌≡◌, ℕ, ◌%◌, ◌^◌, ◌<◌, Bool, cond, not, ◌&&◌, T, ◌⊎◌, ◌↔◌, List, length, nat_lt}
use Rattle.domain.specs.Term.{Term, Subst, Closed, apply, term_at}
use Rattle.domain.specs.Model.{Model}
use Rattle.families.specs.Masks.{bit, cut, covers}
use Rattle.rows.specs.Cores.{Full}
use Rattle.rows.specs.Rows.{read as read_row}
use Rattle.rows.specs.Values.{Value, Under, never, joined, viewed, rank}
use Rattle.formulas.specs.declared.models.Models.{Models}

-- ---- the lists described

-- The places in g are those of the list whose terms have no variables under s. A place past the end of the list is not
-- in g, although `term_at` reads a constant there.
abbrev pub Grounded : List Term → Subst → ℕ → Type 0
Grounded ts s g = (i : ℕ) → T (bit g i) ↔ ((i < length ts) × Closed (apply s (term_at ts i)))

-- those places are the model g of a
pub record Modelled (a : Value) (ts : List Term) (s : Subst) : Type 0 where
  pub g : ℕ
  pub held : T (a.has g)
  pub exact : Grounded ts s g

abbrev pub Describes : Value → List Term → Type 0
Describes a ts = (length ts ≡ a.width) × ((s : Subst) → Modelled a ts s)

-- ---- the functions

-- both pass, or neither
abbrev pub alike : Bool → Bool → Bool
alike b c = cond b c (not c)

-- the models that have x just where they have all of ys
abbrev pub tied_has : Value → ℕ → List ℕ → ℕ → Bool
tied_has a x ys g = a.has g && alike (bit g x) (covers ys g)

abbrev pub tied : Value → ℕ → List ℕ → Value
tied a x ys = record { width = a.width; has = tied_has a x ys }

-- each model with each set of the new variables: below the old width it is a model of a
abbrev pub entered_has : Value → ℕ → ℕ → Bool
entered_has a v h = nat_lt h (2 ^ v) && a.has (h % 2 ^ a.width)

abbrev pub entered : Value → ℕ → Value
entered a v = record { width = v; has = entered_has a v }

-- the models that at the arguments are models of b
abbrev pub backed_has : Value → List ℕ → Value → ℕ → Bool
backed_has a args b g = a.has g && b.has (cut args g)

abbrev pub backed : Value → List ℕ → Value → Value
backed a args b = record { width = a.width; has = backed_has a args b }

-- ---- the verdicts

-- every model has x
abbrev pub Ground : Value → ℕ → Type 0
Ground a x = (g : ℕ) → T (a.has g) → T (bit g x)

-- every model has x or y
abbrev pub Apart : Value → ℕ → ℕ → Type 0
Apart a x y = (g : ℕ) → T (a.has g) → T (bit g x) ⊎ T (bit g y)

-- ---- the model of the interface

-- Whatever words are stored, this is a lawful value: never, where the model of all variables is missing.
abbrev pub read : Models → Value
read m = read_row Full m.row

abbrev pub formulas : Model Models
formulas = record {
  Value = Value;
  read = read;
  width = λ a. a.width;
  Describes = Describes;
  Under = Under;
  never = never;
  joined = joined;
  tied = tied;
  viewed = viewed;
  entered = entered;
  backed = backed;
  Ground = Ground;
  Apart = Apart;
  rank = rank;
}
