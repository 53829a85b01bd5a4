-- First-order terms over numbered variables and numbered functors, and substitutions.
use Rattle.std.specs.Prelude.{◌≡◌, ℕ, ◌<◌, ◌⊎◌, List, [], ◌∷◌, map, slice_index_or}

mutual
  pub data Term : Type 0 where
    var : ℕ → Term
    app : ℕ → Terms → Term

  -- the arguments of a functor; its arity is their number
  pub data Terms : Type 0 where
    end : Terms
    arg : Term → Terms → Terms

abbrev mutual
  -- the variable u occurs in the term
  pub Occurs : ℕ → Term → Type 0
  Occurs u (var v) = u ≡ v
  Occurs u (app f ts) = Among u ts

  pub Among : ℕ → Terms → Type 0
  Among u end = ⊥
  Among u (arg t ts) = Occurs u t ⊎ Among u ts

-- the term has no variables
abbrev pub Closed : Term → Type 0
Closed t = (u : ℕ) → Occurs u t → ⊥

-- the variable u occurs in some term of the list
abbrev pub Inside : ℕ → List Term → Type 0
Inside u [] = ⊥
Inside u (t ∷ ts) = Occurs u t ⊎ Inside u ts

-- every variable of the list has a number below n
abbrev pub Above : ℕ → List Term → Type 0
Above n ts = (u : ℕ) → Inside u ts → u < n

abbrev pub Subst : Type 0
Subst = ℕ → Term

abbrev mutual
  pub apply : Subst → Term → Term
  apply s (var v) = s v
  apply s (app f ts) = app f (applies s ts)

  pub applies : Subst → Terms → Terms
  applies s end = end
  applies s (arg t ts) = arg (apply s t) (applies s ts)

abbrev pub terms : List Term → Terms
terms [] = end
terms (t ∷ ts) = arg t (terms ts)

-- the term at place x; a list of the right width is never read past its end
abbrev pub term_at : List Term → ℕ → Term
term_at ts x = slice_index_or ts x (app 0 end)

-- the terms at the places listed, in that order
abbrev pub pick : List ℕ → List Term → List Term
pick xs ts = map (term_at ts) xs
