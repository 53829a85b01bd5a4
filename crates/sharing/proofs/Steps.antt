-- What the parts of `tie` and `back` make of the groups, and what they make up. Assumes nothing.
use Rattle.std.proofs.Common.{◌≡◌, ℕ, ◌<◌, Bool, true, false, not, ◌&&◌, ◌||◌, T, ◌↔◌, List, sym, subst, refl, ap, ap₂, ◌∙◌, inl, inr, ⊎_elim}
use lib.Bits.{bit_or}
use Rattle.domain.proofs.Booleans.{and_split, and_pair, or_split, or_left, or_right, same_test}
use Rattle.families.specs.declared.family.Family.{Family}
use Rattle.families.specs.Families.{Either}
use Rattle.families.specs.Masks.{bit, cut, meets, overlaps, alone, coded}
use Rattle.families.specs.Words.{holds, sets}
use Rattle.families.proofs.Overlaps.{overlaps_or, overlaps_alone, overlaps_coded}
use Rattle.families.proofs.Words.{holds_low}
use Rattle.rows.specs.Cores.{Empty}
use Rattle.rows.specs.Rows.{Cored}
use Rattle.rows.specs.Values.{Value}
use Rattle.sharing.specs.Sharing.{touches, picks, union, tied_has, backed_has}
use Rattle.sharing.specs.Parts.{AreUntouched, AreJoined, AreUnpassed, AreReturned}
use Rattle.sharing.specs.Laws.Picks.{picks_some, union_all}
use Rattle.sharing.proofs.Joins.{some_has, some_meets_ys, some_at_all}

-- ---- a mask meets a set of a family just where the rule says so

and_same : (b c d : Bool) → (T b → c ≡ d) → (b && c) ≡ (b && d)
and_same true c d e = e tt
and_same false c d e = refl

where_held : (f : Family) (g : ℕ) (b c : Bool) → (g < sets → b ≡ c) → (holds f g && b) ≡ (holds f g && c)
where_held f g b c same = and_same (holds f g) b c (λ t. same (holds_low f g t))

pub met_alone : (f : Family) (g x : ℕ) → (holds f g && overlaps g (alone x)) ≡ (holds f g && bit g x)
met_alone f g x =
    where_held f g (overlaps g (alone x)) (bit g x)
    (λ low. same_test (overlaps g (alone x)) (bit g x) (overlaps_alone g low x).0 (overlaps_alone g low x).1)

listed : (ys : List ℕ) (g : ℕ) → g < sets → overlaps g (coded ys) ≡ meets ys g
listed ys g low = same_test (overlaps g (coded ys)) (meets ys g) (overlaps_coded g low ys).0 (overlaps_coded g low ys).1

pub met_listed : (f : Family) (g : ℕ) (ys : List ℕ) → (holds f g && overlaps g (coded ys)) ≡ (holds f g && meets ys g)
met_listed f g ys = where_held f g (overlaps g (coded ys)) (meets ys g) (listed ys g)

pub missed_listed : (f : Family) (g : ℕ) (ys : List ℕ) → (holds f g && not (overlaps g (coded ys))) ≡ (holds f g && not (meets ys g))
missed_listed f g ys = where_held f g (not (overlaps g (coded ys))) (not (meets ys g)) (λ low. ap not (listed ys g low))

either : (x : ℕ) (ys : List ℕ) (g : ℕ) → g < sets → overlaps g (bit_or (alone x) (coded ys)) ≡ touches x ys g
either x ys g low =
    same_test (overlaps g (bit_or (alone x) (coded ys))) (touches x ys g)
    (λ t.
    ⊎_elim (λ b. or_left (bit g x) (meets ys g) ((overlaps_alone g low x).0 b)) (λ b. or_right (bit g x) (meets ys g) ((overlaps_coded g low ys).0 b))
    ((overlaps_or g (alone x) (coded ys)).0 t))
    (λ t.
    (overlaps_or g (alone x) (coded ys)).1
    (⊎_elim (λ b. inl ((overlaps_alone g low x).1 b)) (λ b. inr ((overlaps_coded g low ys).1 b)) (or_split (bit g x) (meets ys g) t)))

pub met_either : (f : Family) (g x : ℕ) (ys : List ℕ) → (holds f g && overlaps g (bit_or (alone x) (coded ys))) ≡ (holds f g && touches x ys g)
met_either f g x ys = where_held f g (overlaps g (bit_or (alone x) (coded ys))) (touches x ys g) (either x ys g)

pub missed_either : (f : Family) (g x : ℕ) (ys : List ℕ) → (holds f g && not (overlaps g (bit_or (alone x) (coded ys)))) ≡ (holds f g && not (touches x ys g))
missed_either f g x ys =
    where_held f g (not (overlaps g (bit_or (alone x) (coded ys)))) (not (touches x ys g)) (λ low. ap not (either x ys g low))

-- ---- what the parts make up

pub tied_is : (a : Value) (x : ℕ) (ys : List ℕ) (kept joined all : Family) → AreUntouched a x ys kept → AreJoined a x ys joined → Either kept joined all →
    (h : ℕ) → holds all h ≡ tied_has a x ys h
tied_is a x ys kept joined all kept_is joined_is all_is h =
    let p = touches x ys in
    let with_x = picks a p h (λ g. bit g x) in
    let with_ys = picks a p h (meets ys) in
    let same : (union a p h && (with_x && with_ys)) ≡ (union a p h && (bit h x && meets ys h)) =
    and_same (union a p h) (with_x && with_ys) (bit h x && meets ys h)
    (λ t. let u = union_all a p h t in ap₂ ◌&&◌ (some_has a p h x u) (some_meets_ys a p h ys u)) in
    all_is h ∙ ap₂ ◌||◌ (kept_is h) (joined_is h ∙ sym same)

pub backed_is : (a : Value) (args : List ℕ) (b : Value) (kept returned all : Family) → Cored Empty a → T (b.has 0) → AreUnpassed a args kept →
    AreReturned a args b returned → Either kept returned all → (h : ℕ) → holds all h ≡ backed_has a args b h
backed_is a args b kept returned all full ends kept_is returned_is all_is h =
    let p = meets args in
    let some = picks a p h (λ g. true) in
    let viewed = b.has (cut args h) in
    let stays = a.has h && not (p h) in
    let comes = union a p h && (some && viewed) in
    let same : comes ≡ (union a p h && (p h && viewed)) =
    and_same (union a p h) (some && viewed) (p h && viewed)
    (λ t. ap (λ (b : Bool). b && viewed) (some_at_all a args h (union_all a p h t))) in
    let empty : T (stays || comes) → T (a.has 0) = λ t.
    ⊎_elim (λ k. full h (and_split (a.has h) (not (p h)) k).0)
    (λ k.
    let rest = (and_split (union a p h) (some && viewed) k).1 in
    let one = picks_some a p h (λ g. true) (and_split some viewed rest).0 in
    full one.g one.held)
    (or_split stays comes t) in
    all_is h ∙ ap₂ ◌||◌ (kept_is h) (returned_is h ∙ sym same)
    ∙ same_test (stays || comes) (backed_has a args b h)
    (λ t. and_pair (a.has 0) (b.has 0 && (stays || comes)) (empty t) (and_pair (b.has 0) (stays || comes) ends t))
    (λ t. (and_split (b.has 0) (stays || comes) (and_split (a.has 0) (b.has 0 && (stays || comes)) t).1).1)

-- ---- no set is left of a family just where none of it passes

pub none_left : (has passes : ℕ → Bool) {left : ℕ → Bool} → ((g : ℕ) → left g ≡ (has g && passes g)) → ((g : ℕ) → left g ≡ false) ↔ ((g : ℕ) → T (has g) → T (passes g) → ⊥)
none_left has passes {left} is = (
  λ none g held pass. subst T (sym (is g) ∙ none g) (and_pair (has g) (passes g) held pass),
  λ none g. is g ∙ same_test (has g && passes g) false (λ t. let (held, pass) = and_split (has g) (passes g) t in none g held pass) (λ t. absurd t),
)
