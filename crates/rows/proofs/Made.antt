-- Sets listed within a width make the value of those sets with the core. Assumes nothing.
use Rattle.std.specs.Prelude.{Some, None}
use Rattle.std.proofs.Common.{◌≡◌, ℕ, ◌^◌, ◌<◌, ◌≤◌, min, T, ◌↔◌, List, [], ◌∷◌, sym, refl, subst, inl, inr, arith, pow_mono, Bor}
use Rattle.domain.specs.Variables.{widest}
use Rattle.families.specs.declared.family.Family.{Family}
use Rattle.families.specs.Listings.{Listing, Within, Codes, InBounds, Meant}
use Rattle.families.specs.Words.{holds, sets}
use Rattle.families.proofs.Masks.{bits_below}
use Rattle.rows.specs.Cores.{Core, core}
use Rattle.rows.specs.declared.row.Row.{Row}
use Rattle.rows.specs.Rows.{read, read_width}
use Rattle.rows.specs.Values.{Gives}
use Rattle.rows.proofs.Cored.{core_low}
use Rattle.rows.proofs.Readings.{read_held, read_from}

-- a set that is listed within a bound
codes_below : (n : ℕ) (xss : List (Bor (List ℕ))) (g : ℕ) → Within n xss → Codes xss g → g < 2 ^ n
codes_below n [] g within c = elim c [ ]
codes_below n (xs ∷ xss) g within (inl coded) =
    bits_below n g (λ i high t. let l = within.0 i ((coded i).0 t).0 in omega arith)
codes_below n (xs ∷ xss) g within (inr c) = codes_below n xss g within.1 c

-- a set that is meant lies below the width
meant_below : (c : Core) (n : ℕ) (l : Listing) (h : ℕ) → InBounds n l → Meant (core c n) l h → h < 2 ^ n
meant_below c n None h bounds k = elim k [ ]
meant_below c n (Some xss) h bounds (inl e) = subst (λ (k : ℕ). k < 2 ^ n) (sym e.0) (core_low c n)
meant_below c n (Some xss) h bounds (inr k) = codes_below n xss.now h bounds k

-- where one is meant, so is the core
meant_core : (k : ℕ) → k < sets → (l : Listing) (h : ℕ) → Meant k l h → Meant k l k
meant_core k low None h m = m
meant_core k low (Some xss) h m = inl (refl, low)

pub gives_meant : {K : Type 0} (c : Core) (r : Row K) (n : ℕ) (f : Family) → (r.width ≡ n) × (r.map ≡ f) → n ≤ widest → (l : Listing) → InBounds n l →
    ((h : ℕ) → T (holds f h) ↔ Meant (core c (min n widest)) l h) → Gives n (Meant (core c n) l) (read c r)
gives_meant c r n f of narrow l bounds is = record {
  width = wide;
  sets = λ h. (
    λ t. (meant h).0 (read_held c r h t),
    λ k.
        read_from c r h (
          subst (λ (m : ℕ). h < 2 ^ m) (sym wide) (meant_below c n l h bounds k),
          subst (λ (m : ℕ). T (holds r.map (core c m))) (sym wide) ((meant (core c n)).1 (meant_core (core c n) low l h k)),
          (meant h).1 k,
        ),
  );
}
  where
    wide : read_width r ≡ n
    wide = let e = of.0 in omega arith

    here : (h : ℕ) → T (holds r.map h) ↔ Meant (core c (min n widest)) l h
    here = subst (λ (f : Family). (h : ℕ) → T (holds f h) ↔ Meant (core c (min n widest)) l h) (sym of.1) is

    meant : (h : ℕ) → T (holds r.map h) ↔ Meant (core c n) l h
    meant = let e : min n widest ≡ n = omega arith in subst (λ (m : ℕ). (h : ℕ) → T (holds r.map h) ↔ Meant (core c m) l h) e here

    low : core c n < sets
    low = let room : 2 ^ n ≤ sets = pow_mono narrow in let l = core_low c n in omega arith
