-- The domain of sharing groups. A value is a width and a set of groups; a group is a set of variables, coded as a mask.
-- A list of terms is described where, for every variable that may occur in it, the places whose terms hold that
-- variable are one of the groups.
use Rattle.std.specs.Prelude.{◌≡◌, ℕ, ◌^◌, Bool, true, not, ◌&&◌, ◌||◌, T, ◌↔◌, List, length, ◌==◌, nat_le, nat_lt}
use Rattle.domain.specs.Term.{Term, Occurs, term_at}
use Rattle.domain.specs.Model.{Model}
use Rattle.families.specs.Masks.{bit, cut, any, all, meets, within}
use Rattle.rows.specs.Cores.{Empty}
use Rattle.rows.specs.Rows.{read as read_row}
use Rattle.rows.specs.Values.{Value, Under, never, joined, viewed, rank}
use Rattle.sharing.specs.declared.groups.Groups.{Groups}

-- ---- the lists described

-- The places whose terms hold the variable u are the group g of a. A place at or above the width is past the end of
-- the list, where `term_at` reads a constant: so no such place is in g.
pub record Grouped (a : Value) (ts : List Term) (u : ℕ) : Type 0 where
  pub g : ℕ
  pub held : T (a.has g)
  pub exact : (i : ℕ) → T (bit g i) ↔ Occurs u (term_at ts i)

-- Every variable counts, those that occur nowhere too: a value without the empty group describes nothing.
abbrev pub Describes : Value → List Term → Type 0
Describes a ts = (length ts ≡ a.width) × ((u : ℕ) → Grouped a ts u)

-- ---- unions

-- some group of a passes p, lies within h, and passes q
abbrev pub picks : Value → (ℕ → Bool) → ℕ → (ℕ → Bool) → Bool
picks a p h q = any (2 ^ a.width) (λ g. a.has g && (p g && (within a.width g h && q g)))

-- h is a union of groups of a that pass p. It is one of some of them just where it is the union of all of them that
-- lie within h: where each variable of h is in one that lies within h.
abbrev pub union : Value → (ℕ → Bool) → ℕ → Bool
union a p h = nat_lt h (2 ^ a.width) && all a.width (λ i. not (bit h i) || picks a p h (λ g. bit g i))

-- ---- the functions

-- g has x or meets ys
abbrev pub touches : ℕ → List ℕ → ℕ → Bool
touches x ys g = bit g x || meets ys g

-- The groups that touch neither side stay. The others give each union of some of them, of which one has x and one
-- meets ys; it may be the same one.
abbrev pub tied_has : Value → ℕ → List ℕ → ℕ → Bool
tied_has a x ys h =
    (a.has h && not (touches x ys h))
    || (union a (touches x ys) h && (picks a (touches x ys) h (λ g. bit g x) && picks a (touches x ys) h (meets ys)))

abbrev pub tied : Value → ℕ → List ℕ → Value
tied a x ys = record { width = a.width; has = tied_has a x ys }

-- the groups of a, and each new variable alone; nothing, where a lacks the empty group and so describes nothing
abbrev pub entered_has : Value → ℕ → ℕ → Bool
entered_has a v h = a.has 0 && (a.has h || any v (λ i. nat_le a.width i && h == 2 ^ i))

abbrev pub entered : Value → ℕ → Value
entered a v = record { width = v; has = entered_has a v }

-- The groups that meet no argument stay. The others give each union of one or more of them that b has at the
-- arguments. Nothing, where a or b lacks the empty group and so describes nothing.
abbrev pub backed_has : Value → List ℕ → Value → ℕ → Bool
backed_has a args b h =
    a.has 0 && (b.has 0 && (
    (a.has h && not (meets args h))
    || (union a (meets args) h && (picks a (meets args) h (λ g. true) && b.has (cut args h)))))

abbrev pub backed : Value → List ℕ → Value → Value
backed a args b = record { width = a.width; has = backed_has a args b }

-- ---- the verdicts

-- no group has x
abbrev pub Ground : Value → ℕ → Type 0
Ground a x = (g : ℕ) → T (a.has g) → T (bit g x) → ⊥

-- no group has both
abbrev pub Apart : Value → ℕ → ℕ → Type 0
Apart a x y = (g : ℕ) → T (a.has g) → T (bit g x) → T (bit g y) → ⊥

-- ---- the model of the interface

-- Whatever words are stored, this is a lawful value: never, where the empty group is missing.
abbrev pub read : Groups → Value
read r = read_row Empty r.row

abbrev pub sharing : Model Groups
sharing = record {
  Value = Value;
  read = read;
  width = λ a. a.width;
  Describes = Describes;
  Under = Under;
  never = never;
  joined = joined;
  tied = tied;
  viewed = viewed;
  entered = entered;
  backed = backed;
  Ground = Ground;
  Apart = Apart;
  rank = rank;
}
