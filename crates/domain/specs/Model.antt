-- What a domain means: its values, which lists of terms each describes, and the laws of its functions.
use Rattle.std.specs.Prelude.{◌≡◌, ℕ, ◌<◌, ◌≤◌, List, length, ◌≢◌}
use Rattle.domain.specs.Variables.{Different, Below, widest}
use Rattle.domain.specs.Term.{Term, Occurs, Closed, Above, term_at, pick}
use Rattle.domain.specs.Outcomes.{Equated, Begun, Resumed}

-- `Words` is what lies in a row; `read` gives the value that is read off it. Two rows are equal where they are read alike.
pub record Model (Words : Type 0) : Type 1 where
  pub Value : Type 0
  pub read : Words → Value
  pub width : Value → ℕ
  pub Describes : Value → List Term → Type 0
  pub Under : Value → Value → Type 0
  pub never : ℕ → Value
  pub joined : Value → Value → Value
  pub tied : Value → ℕ → List ℕ → Value
  pub viewed : Value → List ℕ → Value
  pub entered : Value → ℕ → Value
  pub backed : Value → List ℕ → Value → Value
  pub Ground : Value → ℕ → Type 0
  pub Apart : Value → ℕ → ℕ → Type 0
  pub rank : Value → ℕ

-- ---- within bounds

-- Widths and variables are within bounds in every law, as whoever calls the functions sees to it: a domain owes
-- nothing beyond.
module _ {Words : Type 0} (m : Model Words) where
  -- x is a variable of a
  abbrev pub Variable : m.Value → ℕ → Type 0
  Variable a x = x < m.width a

  -- x and ys are the sides of an equation between variables of a
  abbrev pub Sides : m.Value → ℕ → List ℕ → Type 0
  Sides a x ys = Variable a x × Below (m.width a) ys

  -- xs are different variables of a
  abbrev pub Arguments : m.Value → List ℕ → Type 0
  Arguments a xs = Below (m.width a) xs × Different xs

  -- a clause with v variables may begin with a
  abbrev pub Room : m.Value → ℕ → Type 0
  Room a v = (m.width a ≤ v) × (v ≤ widest)

  -- b has a place for each of the arguments
  abbrev pub Placed : List ℕ → m.Value → Type 0
  Placed args b = m.width b ≡ length args

  -- ---- what the verdicts are about

  -- in every list that a describes, x's term has no variable
  abbrev pub AlwaysGround : m.Value → ℕ → Type 0
  AlwaysGround a x = (ts : List Term) → m.Describes a ts → Closed (term_at ts x)

  -- in every list that a describes, no variable occurs in both terms
  abbrev pub AlwaysApart : m.Value → ℕ → ℕ → Type 0
  AlwaysApart a x y = (ts : List Term) → m.Describes a ts → (u : ℕ) → Occurs u (term_at ts x) → Occurs u (term_at ts y) → ⊥

-- ---- the laws

pub record Lawful {Words : Type 0} (m : Model Words) : Type 0 where
  -- the order
  pub under_refl : (a : m.Value) → m.Under a a
  pub under_trans : (a b c : m.Value) → m.Under a b → m.Under b c → m.Under a c
  pub under_antisym : (a b : m.Value) → m.Under a b → m.Under b a → a ≡ b
  pub under_width : (a b : m.Value) → m.Under a b → m.width a ≡ m.width b
  -- the lists described: a larger value describes all that a smaller one does
  pub described_width : (a : m.Value) (ts : List Term) → m.Describes a ts → length ts ≡ m.width a
  pub larger : (a b : m.Value) → m.Under a b → (ts : List Term) → m.Describes a ts → m.Describes b ts
  -- never: the least value of a width, which describes nothing
  pub never_width : (n : ℕ) → n ≤ widest → m.width (m.never n) ≡ n
  pub never_least : (a : m.Value) → m.Under (m.never (m.width a)) a
  pub never_none : (n : ℕ) → n ≤ widest → (ts : List Term) → m.Describes (m.never n) ts → ⊥
  -- join: the least upper bound
  pub join_left : (a b : m.Value) → m.width a ≡ m.width b → m.Under a (m.joined a b)
  pub join_right : (a b : m.Value) → m.width a ≡ m.width b → m.Under b (m.joined a b)
  pub join_least : (a b c : m.Value) → m.Under a c → m.Under b c → m.Under (m.joined a b) c
  -- tie: every outcome of an equation
  pub tie_width : (a : m.Value) (x : ℕ) (ys : List ℕ) → Sides m a x ys → m.width (m.tied a x ys) ≡ m.width a
  pub tie_grows : (a b : m.Value) (x : ℕ) (ys : List ℕ) → Sides m a x ys → m.Under a b → m.Under (m.tied a x ys) (m.tied b x ys)
  pub tie_describes : (a : m.Value) (x : ℕ) (ys : List ℕ) → Sides m a x ys → (n : ℕ) (ts ts' : List Term) → m.Describes a ts → Above n ts → Equated n ts x ys ts' → m.Describes (m.tied a x ys) ts'
  -- view: the terms at the places listed, in that order
  pub view_width : (a : m.Value) (xs : List ℕ) → Arguments m a xs → m.width (m.viewed a xs) ≡ length xs
  pub view_grows : (a b : m.Value) (xs : List ℕ) → Arguments m a xs → m.Under a b → m.Under (m.viewed a xs) (m.viewed b xs)
  pub view_describes : (a : m.Value) (xs : List ℕ) → Arguments m a xs → (ts : List Term) → m.Describes a ts → m.Describes (m.viewed a xs) (pick xs ts)
  -- enter: what a called clause begins with
  pub enter_width : (a : m.Value) (v : ℕ) → Room m a v → m.width (m.entered a v) ≡ v
  pub enter_grows : (a b : m.Value) (v : ℕ) → Room m a v → m.Under a b → m.Under (m.entered a v) (m.entered b v)
  pub enter_describes : (a : m.Value) (v : ℕ) → Room m a v → (ts ts' : List Term) → m.Describes a ts → Begun ts v ts' → m.Describes (m.entered a v) ts'
  -- back: the caller's list after a call that returned a list which b describes
  pub back_width : (a : m.Value) (args : List ℕ) (b : m.Value) → Arguments m a args → Placed m args b → m.width (m.backed a args b) ≡ m.width a
  pub back_grows : (a b : m.Value) (args : List ℕ) (c d : m.Value) → Arguments m a args → Placed m args c → m.Under a b → m.Under c d → m.Under (m.backed a args c) (m.backed b args d)
  pub back_describes : (a : m.Value) (args : List ℕ) (b : m.Value) → Arguments m a args → Placed m args b → (ts rs ts' : List Term) → m.Describes a ts → m.Describes b rs → Resumed ts args rs ts' → m.Describes (m.backed a args b) ts'
  -- the verdicts: what a yes promises of every list described
  pub ground_holds : (a : m.Value) (x : ℕ) → Variable m a x → m.Ground a x → AlwaysGround m a x
  pub apart_holds : (a : m.Value) (x y : ℕ) → Variable m a x → Variable m a y → m.Apart a x y → AlwaysApart m a x y
  -- rank, of what lies in rows: it rises strictly with the value
  pub rank_bound : (w : Words) → m.rank (m.read w) ≤ 65535
  pub rank_rises : (v w : Words) → m.Under (m.read v) (m.read w) → (m.read v ≢ m.read w) → m.rank (m.read v) < m.rank (m.read w)

-- The verdicts are exact, of what lies in rows: they say yes wherever every list described has the property.
pub record Exact {Words : Type 0} (m : Model Words) : Type 0 where
  pub ground_exact : (w : Words) (x : ℕ) → Variable m (m.read w) x → AlwaysGround m (m.read w) x → m.Ground (m.read w) x
  pub apart_exact : (w : Words) (x y : ℕ) → Variable m (m.read w) x → Variable m (m.read w) y → AlwaysApart m (m.read w) x y → m.Apart (m.read w) x y
