-- A list with an element for each variable below a bound, by whether a mask has it. Assumes nothing.
use Rattle.std.proofs.Common.{◌≡◌, ℕ, zero, suc, ◌/◌, ◌<◌, Bool, List, [], ◌∷◌, length, get_or, sym, refl, ap, ◌∙◌, arith}
use Rattle.families.specs.Masks.{bit}
use Rattle.families.proofs.Masks.{bit_suc}

abbrev pub spread : {A : Type 0} → (Bool → A) → ℕ → ℕ → List A
spread f zero g = []
spread f (suc n) g = f (bit g 0) ∷ spread f n (g / 2)

module _ {A : Type 0} (f : Bool → A) where
  pub length_spread : (n g : ℕ) → length (spread f n g) ≡ n
  length_spread zero g = refl
  length_spread (suc n) g = ap suc (length_spread n (g / 2))

  pub spread_at : (d : A) (n g i : ℕ) → i < n → get_or (spread f n g) i d ≡ f (bit g i)
  spread_at d zero g i l = absurd (omega arith)
  spread_at d (suc n) g zero l = refl
  spread_at d (suc n) g (suc i) l = spread_at d n (g / 2) i (omega arith) ∙ ap f (sym (bit_suc g i))
