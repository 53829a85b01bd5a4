-- Sharing groups are a lawful domain. Assumes nothing.
pub mod TieLaw
pub mod Picks
pub mod Moves
pub mod BackLaw
pub mod Growth
pub mod Places
pub mod Exactness
use Rattle.std.specs.Prelude.{◌≡◌, ℕ, ◌+◌, length, refl}
use Rattle.std.proofs.Common.{sym, subst, ◌∙◌}
use Rattle.domain.specs.Model.{Lawful, Exact}
use Rattle.sharing.specs.Sharing.{Describes, tied, entered, backed, sharing, read}
use Rattle.rows.specs.Cores.{Empty}
use Rattle.rows.proofs.Readings.{read_narrow, read_fits, read_cored}
use Rattle.rows.proofs.Values.{under_refl, under_trans, under_antisym, never_least, join_left, join_right, join_least, view_grows, rank_bound, rank_rises}
use Rattle.sharing.specs.Laws.TieLaw.{tie_describes}
use Rattle.sharing.specs.Laws.BackLaw.{back_describes}
use Rattle.sharing.specs.Laws.Growth.{tie_grows, enter_grows, back_grows}
use Rattle.sharing.specs.Laws.Places.{view_describes, enter_describes}
use Rattle.sharing.specs.Laws.Exactness.{ground_holds, apart_holds, ground_exact, apart_exact}

pub lawful : Lawful sharing
lawful = record {
  under_refl = under_refl;
  under_trans = under_trans;
  under_antisym = under_antisym;
  under_width = λ a b under. under.0;
  described_width = λ a ts described. described.0;
  larger = λ a b under ts described.
      (described.0 ∙ under.0, λ u. let k = described.1 u in record { g = k.g; held = under.1 k.g k.held; exact = k.exact });
  never_width = λ n narrow. refl;
  never_least = never_least;
  never_none = λ n narrow ts described. (described.1 0).held;
  join_left = join_left;
  join_right = join_right;
  join_least = join_least;
  tie_width = λ a x ys sides. refl;
  tie_grows = λ a b x ys sides under. tie_grows a b under x ys;
  tie_describes = λ a x ys sides n ts ts' described above o.
      subst (Describes (tied a x ys)) (sym o.after) (tie_describes a x ys ts described n above o.right o.side o.s o.unifies);
  view_width = λ a xs arguments. refl;
  view_grows = λ a b xs arguments under. view_grows a b under xs;
  view_describes = λ a xs arguments. view_describes a xs;
  enter_width = λ a v room. refl;
  enter_grows = λ a b v room under. enter_grows a b under v;
  enter_describes = λ a v room ts ts' described o.
      let filled : a.width + length o.us ≡ v = subst (λ (n : ℕ). n + length o.us ≡ v) described.0 o.filled in
      subst (Describes (entered a v)) (sym o.after) (enter_describes a v ts described o.us filled o.different o.new);
  back_width = λ a args b arguments placed. refl;
  back_grows = λ a b args c d arguments placed under. back_grows a b under args c d;
  back_describes = λ a args b arguments placed ts rs ts' described returned o.
      subst (Describes (backed a args b)) (sym o.after) (back_describes a args b ts rs described returned o.known o.s o.returns);
  ground_holds = λ a x x_below. ground_holds a x;
  apart_holds = λ a x y x_below y_below. apart_holds a x y;
  rank_bound = λ w. rank_bound (read w) (read_narrow w.row);
  rank_rises = λ v w. rank_rises (read v) (read w) (read_fits Empty w.row);
}

pub exact : Exact sharing
exact = record {
  ground_exact = λ w x below. (ground_exact (read w) x (read_fits Empty w.row) (read_cored Empty w.row)).1;
  apart_exact = λ w x y below below_y. (apart_exact (read w) x y (read_fits Empty w.row) (read_cored Empty w.row)).1;
}
