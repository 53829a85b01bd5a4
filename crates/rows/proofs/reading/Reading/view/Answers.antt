use Rattle.std.proofs.Common.{◌≡◌, ℕ, ◌≤◌, T, List, length, take, sym, ap, ◌∙◌, subst, arith}
use Rattle.std.proofs.lemmas.List.{length-take}
use Rattle.domain.specs.Variables.{widest}
use Rattle.domain.proofs.Booleans.{same_test}
use Rattle.families.specs.Words.{holds}
use Rattle.rows.specs.Cores.{core}
use Rattle.rows.specs.Rows.{read, Keeps}
use Rattle.rows.specs.Values.{never, viewed, ViewRule}
use Rattle.rows.proofs.Cored.{viewed_cored, cut_core}
use Rattle.rows.proofs.Readings.{stored, read_to, read_fits, read_cored}
use Rattle.rows.proofs.Values.{under_antisym, viewed_some, some_viewed, viewed_fits, viewed_rule}
use Rattle.rows.proofs.reading.Reading.view.Goals as goal

pub returns : goal.returns
returns g c =
    let k = g.K.Core.core in
    let reading = c.args.self.now in
    let v = reading.row.now in
    let a = read k v in
    let off = reading.off in
    let row = c.new.result in
    let f = c.view.result in
    let xs : List ℕ = take widest c.args.xs.now in
    let short : length xs ≤ widest = simp length-take (omega arith) in
    let wide : length c.first.result.now ≡ length xs = ap length c.first.ensures in
    let reads : Keeps k a.width xs → read k row ≡ viewed a xs = λ keeps.
    stored k row (viewed a xs) c.new.ensures wide short (viewed_fits a xs) (viewed_cored k a xs keeps (read_cored k v))
    (λ h l.
    same_test (holds f h) ((viewed a xs).has h)
    (λ t.
    let (m, here, e) = (c.view.ensures h).0 t in
    let held = subst T (off m) here in
    subst (λ (m : ℕ). T ((viewed a xs).has m)) (sym e) (some_viewed a xs m (read_fits k v m held) held))
    (λ t. let (m, held, e) = viewed_some a xs h t in (c.view.ensures h).1 (m, subst T (sym (off m)) held, e))) in
    let (of_width, of_map) = c.new.ensures in
    let read_wide : (read k row).width ≡ length xs = omega arith in
    let lost : (Keeps k a.width xs → ⊥) → read k row ≡ never (length xs) = λ gone.
    under_antisym (read k row) (never (length xs)) (
      read_wide,
      λ h t.
          let first = core k (read k row).width in
          let there : T (holds f first) = subst (λ f. T (holds f first)) of_map (read_to k row h t).1 in
          let (m, here, e) = (c.view.ensures first).0 there in
          gone (cut_core k a.width xs m (read_fits k v m (subst T (off m) here)) (sym e ∙ ap (core k) read_wide)),
    )
    (sym read_wide, λ g t. absurd t) in
    record { reads = reads; rule = λ keeps. subst (ViewRule a xs) (sym (reads keeps)) (viewed_rule a (read_fits k v) xs); lost = lost }
