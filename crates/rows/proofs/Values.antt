-- Values that are sets of sets of variables: their order, what keeps it, and the rank along it. Assumes nothing.
use Rattle.std.proofs.Common.{◌≡◌, ℕ, ◌^◌, ◌<◌, ◌≤◌, ◌&&◌, T, eqb, ◌↔◌, List, length, sym, refl, ◌∙◌, subst, ⊎_elim, arith, eqb→eq, pow_mono}
use mathlib.Core.Path.{fun_ext}
use lib.Dec.{eqb_refl}
use Rattle.std.proofs.lemmas.Bool.{cases_lt}
use Rattle.domain.specs.Variables.{widest}
use Rattle.families.specs.Masks.{cut, count}
use Rattle.rows.specs.Values.{Value, Under, Fits, never, joined, viewed, viewed_has, rank, ViewRule}
use Rattle.families.proofs.Counts.{count_le, count_same}
use Rattle.families.proofs.Masks.{cut_below}
use Rattle.domain.proofs.Booleans.{or_split, or_left, or_right, and_split, and_pair, and_grows, same_test}
use Rattle.families.proofs.Tests.{any_some, some_any}

-- ---- the order

pub under_refl : (a : Value) → Under a a
under_refl a = (refl, λ g t. t)

pub under_trans : (a b c : Value) → Under a b → Under b c → Under a c
under_trans a b c ab bc = (ab.0 ∙ bc.0, λ g t. bc.1 g (ab.1 g t))

pub under_antisym : (a b : Value) → Under a b → Under b a → a ≡ b
under_antisym a b ab ba =
    let same : a.has ≡ b.has = fun_ext (λ g. same_test (a.has g) (b.has g) (ab.1 g) (ba.1 g)) in
    λ i. record { width = ab.0 i; has = same i }

-- values that fit are equal where they have the same sets below the width's bound
pub same_value : (a b : Value) → Fits a → Fits b → a.width ≡ b.width → ((g : ℕ) → g < 2 ^ a.width → T (a.has g) ↔ T (b.has g)) → a ≡ b
same_value a b fits_a fits_b e f =
    under_antisym a b (e, λ g t. (f g (fits_a g t)).0 t)
    (sym e, λ g t. (f g (subst (λ (n : ℕ). g < 2 ^ n) (sym e) (fits_b g t))).1 t)

-- ---- never and join

pub never_least : (a : Value) → Under (never a.width) a
never_least a = (refl, λ g t. absurd t)

pub join_left : (a b : Value) → a.width ≡ b.width → Under a (joined a b)
join_left a b same = (refl, λ g. or_left (a.has g) (b.has g))

pub join_right : (a b : Value) → a.width ≡ b.width → Under b (joined a b)
join_right a b same = (sym same, λ g. or_right (a.has g) (b.has g))

pub join_least : (a b c : Value) → Under a c → Under b c → Under (joined a b) c
join_least a b c ac bc = (ac.0, λ g t. ⊎_elim (ac.1 g) (bc.1 g) (or_split (a.has g) (b.has g) t))

-- ---- the view

pub viewed_some : (a : Value) (xs : List ℕ) (h : ℕ) → T (viewed_has a xs h) → (g : ℕ) × T (a.has g) × (h ≡ cut xs g)
viewed_some a xs h t =
    let (g, l, s) = any_some (2 ^ a.width) (λ g. a.has g && eqb h (cut xs g)) t in
    let (held, e) = and_split (a.has g) (eqb h (cut xs g)) s in
    (g, held, eqb→eq h (cut xs g) e)

pub some_viewed : (a : Value) (xs : List ℕ) (g : ℕ) → g < 2 ^ a.width → T (a.has g) → T (viewed_has a xs (cut xs g))
some_viewed a xs g l held =
    some_any (2 ^ a.width) (λ h. a.has h && eqb (cut xs g) (cut xs h)) g l
    (and_pair (a.has g) (eqb (cut xs g) (cut xs g)) held (eqb_refl (cut xs g)))

pub view_grows : (a b : Value) → Under a b → (xs : List ℕ) → Under (viewed a xs) (viewed b xs)
view_grows a b under xs = (
  refl,
  λ h t.
      let (g, l, s) = any_some (2 ^ a.width) (λ g. a.has g && eqb h (cut xs g)) t in
      some_any (2 ^ b.width) (λ g. b.has g && eqb h (cut xs g)) g (subst (λ (n : ℕ). g < 2 ^ n) under.0 l)
      (and_grows (a.has g) (eqb h (cut xs g)) (b.has g) (eqb h (cut xs g)) (under.1 g) (λ e. e) s),
)

-- the cuts are what the rule names
pub viewed_rule : (a : Value) → Fits a → (xs : List ℕ) → ViewRule a xs (viewed a xs)
viewed_rule a fits xs = record {
  width = refl;
  sets = λ h. (
    viewed_some a xs h,
    λ k. subst (λ (m : ℕ). T (viewed_has a xs m)) (sym k.2) (some_viewed a xs k.0 (fits k.0 k.1) k.1),
  );
}

-- ---- no set past the width

pub never_fits : (n : ℕ) → Fits (never n)
never_fits n g t = absurd t

pub joined_fits : (a b : Value) → a.width ≡ b.width → Fits a → Fits b → Fits (joined a b)
joined_fits a b same fits_a fits_b g t =
    ⊎_elim (fits_a g) (λ r. subst (λ (n : ℕ). g < 2 ^ n) (sym same) (fits_b g r)) (or_split (a.has g) (b.has g) t)

pub viewed_fits : (a : Value) (xs : List ℕ) → Fits (viewed a xs)
viewed_fits a xs h t =
    let (g, held, e) = viewed_some a xs h t in subst (λ (k : ℕ). k < 2 ^ length xs) (sym e) (cut_below xs g)

-- ---- the rank

pub rank_bound : (a : Value) → a.width ≤ widest → rank a ≤ 65535
rank_bound a narrow =
    let size : 2 ^ a.width ≤ 2 ^ widest = pow_mono narrow in
    omega (arith, count_le (2 ^ a.width) a.has)

pub rank_rises : (a b : Value) → Fits b → Under a b → (a ≡ b → ⊥) → rank a < rank b
rank_rises a b fits under differ =
    ⊎_elim (λ l. l) (λ l. absurd (differ (under_antisym a b under (sym under.0, back l)))) (cases_lt (rank a) (rank b))
  where
    back : rank b ≤ rank a → (g : ℕ) → T (b.has g) → T (a.has g)
    back l g t =
        let l' : count (2 ^ b.width) b.has ≤ count (2 ^ b.width) a.has =
        subst (λ (n : ℕ). count (2 ^ b.width) b.has ≤ count (2 ^ n) a.has) under.0 l in
        count_same (2 ^ b.width) a.has b.has under.1 l' g (fits g t) t
