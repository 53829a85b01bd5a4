-- What the parts of the functions take of the models. Assumes nothing.
use Rattle.std.proofs.Common.{◌≡◌, ℕ, ◌^◌, ◌<◌, ◌≤◌, Bool, false, not, ◌&&◌, T, ltb, ◌⊎◌, ◌↔◌, List, min, sym, ◌∙◌, subst, inl, inr, ⊎_elim, arith, pow_mono, T_not}
use lib.Bits.{bit_or}
use lib.Dec.{not_T}
use Rattle.std.proofs.lemmas.Bool.{lt-ltb}
use Rattle.domain.specs.Variables.{Below, widest}
use Rattle.domain.proofs.Booleans.{and_split, and_pair, same_test, tested}
use Rattle.families.specs.Masks.{bit, overlaps, alone}
use Rattle.families.specs.Words.{sets}
use Rattle.families.proofs.Overlaps.{overlaps_or, overlaps_alone}
use Rattle.rows.specs.Cores.{Full}
use Rattle.rows.specs.declared.cores.Full.{Full as Full_row}
use Rattle.rows.specs.declared.row.Row.{Row}
use Rattle.rows.specs.Rows.{read}
use Rattle.rows.specs.Values.{Value}
use Rattle.rows.proofs.Readings.{read_narrow, read_fits}

-- ---- the sets below a width are among all sets

pub all_below : (n : ℕ) → n ≤ widest → (g : ℕ) → g < 2 ^ n → ltb g sets ≡ ltb g (2 ^ n)
all_below n narrow g low =
    let room : 2 ^ n ≤ sets = pow_mono narrow in
    lt-ltb g sets (omega arith) ∙ sym (lt-ltb g (2 ^ n) low)

pub read_low : {K : Type 0} (r : Row K) (g : ℕ) → T ((read Full r).has g) → g < sets
read_low r g held =
    let low = read_fits Full r g held in
    let room : 2 ^ (read Full r).width ≤ sets = pow_mono (read_narrow r) in
    omega arith

-- ---- the verdicts: no model is left that misses the mask, just where each model has what a mask that it meets says

pub overlaps_one : (g x y : ℕ) → g < sets → T (overlaps g (bit_or (alone x) (alone y))) ↔ (T (bit g x) ⊎ T (bit g y))
overlaps_one g x y low =
    let has_x = overlaps_alone g low x in
    let has_y = overlaps_alone g low y in
    let either = overlaps_or g (alone x) (alone y) in (
      λ t. ⊎_elim (λ l. inl (has_x.0 l)) (λ r. inr (has_y.0 r)) (either.0 t),
      λ s. either.1 (⊎_elim (λ l. inl (has_x.1 l)) (λ r. inr (has_y.1 r)) s),
    )

pub none_left : (a : Value) (Says : ℕ → Type 0) (mask : ℕ) {left : ℕ → Bool} → ((g : ℕ) → left g ≡ (a.has g && not (overlaps g mask))) →
    ((g : ℕ) → T (a.has g) → T (overlaps g mask) ↔ Says g) → ((g : ℕ) → left g ≡ false) ↔ ((g : ℕ) → T (a.has g) → Says g)
none_left a Says mask {left} is meets = (
  λ none g held.
      ⊎_elim (meets g held).0
      (λ misses. absurd (subst T (sym (is g) ∙ none g) (and_pair (a.has g) (not (overlaps g mask)) held (not_T (overlaps g mask) misses))))
      (tested (overlaps g mask)),
  λ each g.
      same_test (left g) false
      (λ t.
      let (held, misses) = and_split (a.has g) (not (overlaps g mask)) (subst T (is g) t) in
      T_not (overlaps g mask) misses ((meets g held).1 (each g held))) (λ t. absurd t),
)

-- ---- variables of a row are variables of one with the same words

pub below_words : (r s : Row Full_row) (xs : List ℕ) → (s.width ≡ r.width) × (s.map ≡ r.map) → Below (min r.width widest) xs → Below (min s.width widest) xs
below_words r s xs words = subst (λ (n : ℕ). Below (min n widest) xs) (sym words.0)
