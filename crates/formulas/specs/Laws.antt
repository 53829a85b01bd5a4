-- Ground formulas are a lawful domain, and its verdicts are exact. Assumes nothing.
pub mod Outcomes
pub mod Terms
pub mod Places
pub mod Rules
pub mod Growth
pub mod Exactness
use Rattle.std.specs.Prelude.{refl}
use Rattle.std.proofs.Common.{◌∙◌}
use Rattle.domain.specs.Model.{Lawful, Exact}
use Rattle.domain.specs.Term.Term.{var}
use Rattle.rows.specs.Cores.{Full}
use Rattle.formulas.specs.Formulas.{formulas, read}
use Rattle.rows.proofs.Values.{under_refl, under_trans, under_antisym, never_least, join_left, join_right, join_least, view_grows, rank_bound, rank_rises}
use Rattle.rows.proofs.Readings.{read_narrow, read_fits, read_cored}
use Rattle.formulas.specs.Laws.Outcomes.{tie_describes, view_describes, enter_describes, back_describes}
use Rattle.formulas.specs.Laws.Growth.{tie_grows, enter_grows, back_grows}
use Rattle.formulas.specs.Laws.Exactness.{ground_holds, apart_holds, ground_exact, apart_exact}

pub lawful : Lawful formulas
lawful = record {
  under_refl = under_refl;
  under_trans = under_trans;
  under_antisym = under_antisym;
  under_width = λ a b under. under.0;
  described_width = λ a ts described. described.0;
  larger = λ a b under ts described.
      (described.0 ∙ under.0, λ s. let k = described.1 s in record { g = k.g; held = under.1 k.g k.held; exact = k.exact });
  never_width = λ n narrow. refl;
  never_least = never_least;
  never_none = λ n narrow ts described. (described.1 var).held;
  join_left = join_left;
  join_right = join_right;
  join_least = join_least;
  tie_width = λ a x ys sides. refl;
  tie_grows = λ a b x ys sides under. tie_grows a b under x ys;
  tie_describes = tie_describes;
  view_width = λ a xs arguments. refl;
  view_grows = λ a b xs arguments under. view_grows a b under xs;
  view_describes = view_describes;
  enter_width = λ a v room. refl;
  enter_grows = λ a b v room under. enter_grows a b under v;
  enter_describes = enter_describes;
  back_width = λ a args b arguments placed. refl;
  back_grows = λ a b args c d arguments placed under. back_grows a b under args c d;
  back_describes = back_describes;
  ground_holds = λ a x x_below. ground_holds a x;
  apart_holds = λ a x y x_below y_below. apart_holds a x y;
  rank_bound = λ w. rank_bound (read w) (read_narrow w.row);
  rank_rises = λ v w. rank_rises (read v) (read w) (read_fits Full w.row);
}

pub exact : Exact formulas
exact = record {
  ground_exact = λ w x x_below. (ground_exact (read w) x (read_fits Full w.row) (read_cored Full w.row) x_below).1;
  apart_exact = λ w x y x_below y_below.
      (apart_exact (read w) x y (read_fits Full w.row) (read_cored Full w.row) x_below y_below).1;
}
