-- The scan's loop: what it has shown before syllable i, and what a turn adds.
use Prim.Native.Nat.{ℕ, suc, ◌+◌, ◌*◌, ◌<◌}
use mathlib.Core.Path.{◌≡◌, refl, sym, ◌∙◌, ap, subst}
use mathlib.Core.Bool.{Bool, true, false, not, not-not, ◌&&◌, ◌||◌}
use mathlib.Core.List.{List, [], ◌∷◌}
use native.Mathlib.Nat.{not-suc-le-zero}
use native.Mathlib.Omega.{arith}
use borrow.Author.Count.{below_more}
use lib.Dec.{eqb}
use lib.ListN.{length, get_or, set, length-set}
use lib.Seq.{get_or-set_same, get_or-set_other}
use Rattle.std.specs.Option.{is_some}
use Rattle.std.specs.declared.option.Option.{Option}
use Rattle.std.specs.declared.option.Option.TheVariants.{Some, None}
use Rattle.inspector.specs.declared.shapes.Mark.{Mark}
use Rattle.inspector.specs.declared.shapes.Mark.TheVariants.{Empty, Literal as LiteralOnTop}
use Rattle.sheet.specs.Sheets.{code_words_of, room_of}
use Rattle.inspector.specs.Turns.{turn_of}
use Rattle.inspector.specs.Scan.{literal, number, place, Left, leaves, breaks, branch_left, carried, within, broken, closes, syllable_left, syllable_at, shape_at, breaks_at}
use Rattle.inspector.specs.ForCode.Forms.{shape_left, mark_told, mark_at, Held, Turned, Before, Passed, Marked}
use Rattle.inspector.specs.Targets.{distance, turn_misses, misses_target}
use Rattle.syllable.specs.declared.Branch.{Branch}
use Rattle.syllable.specs.declared.Branch.TheVariants.{Bfw, Bbw, Bfc, Bbc}
use Rattle.syllable.specs.declared.Operator.TheVariants.{Arithmetic, Relation, Logic, Branch as BranchOn, Mop, Mds, Ssp, Ssn, Chs, Top, Xch, Dup, Del, Nop, Lod, Std, Snd, Inx, Mks, Xit, Com, NotBuilt}
use Rattle.syllable.specs.declared.Syllable.{Syllable}
use Rattle.syllable.specs.declared.Syllable.TheVariants.{Litc, Opdc, Desc, Operator as Operates}

-- The scan of the syllables before i: none breaks it, and the shapes before them are marked.
pub record Going (core sheet : List ℕ) (held : Held) (marks : List Mark) (i : ℕ) : Type 0 where
  pub before : Before core sheet i held
  pub passed : Passed core sheet i
  pub sized : length marks ≡ 4096
  pub marked : Marked marks core sheet i

pub going_none : (core sheet : List ℕ) (marks : List Mark) {held : Held} → length marks ≡ 4096 → held ≡ record { items = []; room = room_of sheet } → Going core sheet held marks 0
unfolding shape_at
going_none core sheet marks l e =
    record {
      before = subst (Before core sheet 0) (sym e) (record { shape = refl; room = refl });
      passed = record { passed = λ k h. absurd (not-suc-le-zero h) };
      sized = l;
      marked = record { mark = λ k h. absurd (not-suc-le-zero h) };
    }

-- One more mark.
marked_more : (marks : List Mark) (core sheet : List ℕ) (i : ℕ) (m : Mark) → i < length marks → m ≡ mark_at (shape_at core sheet i) → Marked marks core sheet i → Marked (set marks i m) core sheet (i + 1)
marked_more marks core sheet i m l k p =
    record { mark = below_more (λ (j : ℕ). get_or (set marks i m) j Empty ≡ mark_at (shape_at core sheet j)) i before (get_or-set_same marks i m Empty l ∙ k) }
  where
    before : (j : ℕ) → j < i → get_or (set marks i m) j Empty ≡ mark_at (shape_at core sheet j)
    before j b =
        let n : j ≡ i → ⊥ = λ e. omega arith in
        get_or-set_other marks i j m Empty n ∙ p.mark j b

pub going_more : (core sheet : List ℕ) (held new : Held) (marks : List Mark) (i : ℕ) (m : Mark) → i < 4096 → m ≡ mark_told held.items → breaks_at core sheet i ≡ false → Before core sheet (i + 1) new →
    Going core sheet held marks i → Going core sheet new (set marks i m) (i + 1)
going_more core sheet held new marks i m l k b f g =
    record {
      before = f;
      passed = record { passed = below_more (λ (j : ℕ). breaks_at core sheet j ≡ false) i g.passed.passed b };
      sized = length-set marks i m ∙ g.sized;
      marked = marked_more marks core sheet i m (omega (arith, g.sized)) (k ∙ sym (ap mark_at g.before.shape)) g.marked;
    }

module _ (core sheet : List ℕ) (i : ℕ) (old new : Held) (y : Syllable) (r : Option (Unit {0})) (b : Before core sheet i old) (e : y ≡ syllable_at core sheet i)
    (t : Turned (syllable_left sheet y) old r new) where
  next : shape_at core sheet (suc i) ≡ shape_left r new.items
  unfolding shape_at
  next =
      ap (λ (s : Left). carried s (λ xs. within (room_of sheet) (syllable_left sheet (syllable_at core sheet i) xs))) b.shape
      ∙ ap (λ (s : Syllable). within (room_of sheet) (syllable_left sheet s old.items)) (sym e)
      ∙ ap (λ (m : ℕ). within m (syllable_left sheet y old.items)) (sym b.room)
      ∙ sym t.left

  breaks_as : breaks_at core sheet i ≡ (broken (shape_left r new.items) || (eqb (i + 1) (4 * code_words_of sheet) && not (closes (turn_of y))))
  unfolding breaks_at
  breaks_as =
      let up : suc i ≡ i + 1 = omega arith in
      rw (next, up, e)

  before_next : r ≡ Some tt → Before core sheet (i + 1) new
  before_next s =
      let up : i + 1 ≡ suc i = omega arith in
      record { shape = ap (shape_at core sheet) up ∙ next ∙ ap (λ (r : Option (Unit {0})). shape_left r new.items) s; room = t.room ∙ b.room }

  is_broken : (r : Option (Unit {0})) → not (is_some r) ≡ broken (shape_left r new.items)
  is_broken None = refl
  is_broken (Some x) = refl

  some_is : (r : Option (Unit {0})) → is_some r ≡ true → r ≡ Some tt
  some_is None e = cc
  some_is (Some x) e = refl

  -- By what `is_none` says of the shape's turn.
  module _ {n : Bool} (f : is_some r ≡ not n) where
    turned_as : {b : Bool} → n ≡ b → breaks_at core sheet i ≡ (b || (eqb (i + 1) (4 * code_words_of sheet) && not (closes (turn_of y))))
    turned_as {b} g =
        let h : broken (shape_left r new.items) ≡ b = sym (is_broken r) ∙ ap not f ∙ not-not n ∙ g in
        breaks_as ∙ ap (λ (b : Bool). b || (eqb (i + 1) (4 * code_words_of sheet) && not (closes (turn_of y)))) h

    pub breaks_none : n ≡ true → n ≡ breaks_at core sheet i
    breaks_none g = g ∙ sym (turned_as g)

    pub breaks_some : {u : Bool} → n ≡ false → u ≡ (eqb (i + 1) (4 * code_words_of sheet) && not (closes (turn_of y))) → u ≡ breaks_at core sheet i
    breaks_some g u = u ∙ sym (turned_as g)

    pub goes_on : n ≡ false → Before core sheet (i + 1) new
    goes_on g = before_next (some_is r (f ∙ ap not g))

-- How far a branch over a literal goes.
pub distance_is : (marks : List Mark) (core sheet : List ℕ) (n i d : ℕ) → Marked marks core sheet n → i < n → get_or marks i Empty ≡ LiteralOnTop d → d ≡ distance (shape_at core sheet i)
distance_is marks core sheet n i d m l e = by (shape_at core sheet i) (sym (m.mark i l) ∙ e)
  where
    by : (s : Left) → mark_at s ≡ LiteralOnTop d → d ≡ distance s
    by (leaves []) f = cc
    by (leaves (literal k ∷ xs)) f = cc
    by (leaves (number ∷ xs)) f = cc
    by (leaves (place ∷ xs)) f = cc
    by breaks f = cc

-- A branch over no literal breaks the scan.
over_literal : (sheet : List ℕ) (room : ℕ) (b : Branch) (s : Left) → ((k : ℕ) → mark_at s ≡ LiteralOnTop k → ⊥) → broken (carried s (λ xs. within room (branch_left b xs))) ≡ false → ⊥
over_literal sheet room Bfw (leaves []) n e = cc
over_literal sheet room Bfw (leaves (literal k ∷ xs)) n e = n k refl
over_literal sheet room Bfw (leaves (number ∷ xs)) n e = cc
over_literal sheet room Bfw (leaves (place ∷ xs)) n e = cc
over_literal sheet room Bfw breaks n e = cc
over_literal sheet room Bbw (leaves []) n e = cc
over_literal sheet room Bbw (leaves (literal k ∷ xs)) n e = n k refl
over_literal sheet room Bbw (leaves (number ∷ xs)) n e = cc
over_literal sheet room Bbw (leaves (place ∷ xs)) n e = cc
over_literal sheet room Bbw breaks n e = cc
over_literal sheet room Bfc (leaves []) n e = cc
over_literal sheet room Bfc (leaves (literal k ∷ xs)) n e = n k refl
over_literal sheet room Bfc (leaves (number ∷ xs)) n e = cc
over_literal sheet room Bfc (leaves (place ∷ xs)) n e = cc
over_literal sheet room Bfc breaks n e = cc
over_literal sheet room Bbc (leaves []) n e = cc
over_literal sheet room Bbc (leaves (literal k ∷ xs)) n e = n k refl
over_literal sheet room Bbc (leaves (number ∷ xs)) n e = cc
over_literal sheet room Bbc (leaves (place ∷ xs)) n e = cc
over_literal sheet room Bbc breaks n e = cc

quiet_as : (core sheet : List ℕ) (i : ℕ) (y : Syllable) (s : Left) → ((k : ℕ) → mark_at s ≡ LiteralOnTop k → ⊥) → broken (carried s (λ xs. within (room_of sheet) (syllable_left sheet y xs))) ≡ false →
    false ≡ turn_misses core sheet i (turn_of y)
quiet_as core sheet i (Litc k) s n e = refl
quiet_as core sheet i (Opdc k) s n e = refl
quiet_as core sheet i (Desc k) s n e = refl
quiet_as core sheet i (Operates (Arithmetic o)) s n e = refl
quiet_as core sheet i (Operates (Relation o)) s n e = refl
quiet_as core sheet i (Operates (Logic o)) s n e = refl
quiet_as core sheet i (Operates (BranchOn b)) s n e = absurd (over_literal sheet (room_of sheet) b s n e)
quiet_as core sheet i (Operates (NotBuilt k)) s n e = refl
quiet_as core sheet i (Operates Mop) s n e = refl
quiet_as core sheet i (Operates Mds) s n e = refl
quiet_as core sheet i (Operates Ssp) s n e = refl
quiet_as core sheet i (Operates Ssn) s n e = refl
quiet_as core sheet i (Operates Chs) s n e = refl
quiet_as core sheet i (Operates Top) s n e = refl
quiet_as core sheet i (Operates Xch) s n e = refl
quiet_as core sheet i (Operates Dup) s n e = refl
quiet_as core sheet i (Operates Del) s n e = refl
quiet_as core sheet i (Operates Nop) s n e = refl
quiet_as core sheet i (Operates Lod) s n e = refl
quiet_as core sheet i (Operates Std) s n e = refl
quiet_as core sheet i (Operates Snd) s n e = refl
quiet_as core sheet i (Operates Inx) s n e = refl
quiet_as core sheet i (Operates Mks) s n e = refl
quiet_as core sheet i (Operates Xit) s n e = refl
quiet_as core sheet i (Operates Com) s n e = refl

unbroken : (a b : Bool) → (a || b) ≡ false → a ≡ false
unbroken true b e = e
unbroken false b e = refl

pub quiet : (marks : List Mark) (core sheet : List ℕ) (n i : ℕ) → Passed core sheet n → Marked marks core sheet n → i < n → ((k : ℕ) → get_or marks i Empty ≡ LiteralOnTop k → ⊥) → false ≡ misses_target core sheet i
unfolding breaks_at shape_at misses_target
quiet marks core sheet n i p m l f =
    quiet_as core sheet i (syllable_at core sheet i) (shape_at core sheet i) (λ k e. f k (m.mark i l ∙ e))
    (unbroken (broken (shape_at core sheet (suc i))) (eqb (suc i) (4 * code_words_of sheet) && not (closes (turn_of (syllable_at core sheet i)))) (p.passed i l))
