-- What holds of every state that a passed segment reaches, and that a syllable of it ends well.
use Prim.Native.Nat.{ℕ, suc, ◌+◌, ◌-◌, ◌*◌, ◌<◌}
use mathlib.Core.Path.{◌≡◌, refl, sym, ◌∙◌, ap, subst}
use mathlib.Core.Logic.{◌⊎◌, inl, inr}
use mathlib.Core.Bool.{Bool, true, false, true≢false, false≢true}
use mathlib.Core.List.{List, [], ◌∷◌}
use native.Mathlib.Omega.{arith}
use native.Mathlib.Decide.{ℕ_discrete}
use lib.Dec.{leb}
use lib.ListN.{length}
use Rattle.machine.specs.Outcomes.{Res}
use Rattle.machine.specs.States.{State}
use Rattle.machine.specs.Steps.{Ended, next, communicated, stopped, plain, last}
use Rattle.syllable.specs.declared.Syllable.{Syllable}
use Rattle.syllable.specs.Positions.{next_of}
use Rattle.sheet.specs.Sheets.{code_of, code_words_of, room_of}
use Rattle.inspector.specs.Turns.{turn_of}
use Rattle.inspector.specs.Scan.{Shape, Left, leaves, breaks, when, within, carried, broken, syllable_at, syllable_left, shape_at, closes}
use Rattle.inspector.specs.Targets.{is_empty}
use Rattle.demands.specs.Stays.{Allowed}
use Rattle.demands.proofs.Tests.{shows_and, shows, shows_lt, shows_le}
use Rattle.demands.proofs.Safe.{Safe, goes, stops}
use Rattle.demands.proofs.Passed.{Passed}
use Rattle.demands.proofs.Holds.{Kept, At}
use Rattle.demands.proofs.Operators.{Does}
use Rattle.demands.proofs.Branches.{Unbroken, Landed}

-- A state stands at a syllable of the code, its stack as the scan's shape before that syllable.
pub record Inv (core sheet : List ℕ) (st : State) : Type 0 where
  pub i : ℕ
  pub below : i < 4 * code_words_of sheet
  pub xs : Shape
  pub shape : shape_at core sheet i ≡ leaves xs
  pub at : At core sheet (4 * code_of sheet + i) xs st

abbrev pub Good : List ℕ → List ℕ → Ended → Type 0
Good core sheet (next u) = Inv core sheet u
Good core sheet (communicated u) = Kept core sheet u.core
Good core sheet (stopped n) = Allowed n

-- ---- shapes that are not broken

when_left : (b : Bool) (xs : Shape) → broken (when b xs) ≡ false → (b ≡ true) × (when b xs ≡ leaves xs)
when_left true xs e = (refl, refl)
when_left false xs e = absurd (true≢false e)

empty_left : (o : Left) → is_empty o ≡ true → o ≡ leaves []
empty_left (leaves []) e = refl
empty_left (leaves (x ∷ xs)) e = absurd (false≢true e)
empty_left breaks e = absurd (false≢true e)

pub unbroken : (room : ℕ) (o : Left) {P : Type 0} → broken (within room o) ≡ false → Unbroken o P → P
unbroken room (leaves xs) e p = p
unbroken room breaks e p = absurd (true≢false e)

module _ (core sheet : List ℕ) (ok : Passed core sheet) where
  -- ---- where a syllable ends

  pub landed_inv : (st : State) → Landed core sheet st → Inv core sheet st
  landed_inv st l =
      let t : ℕ = l.target in
      let h = shows_and (shows_and (shows_le (4 * code_of sheet) t) (shows_lt t (4 * (code_of sheet + code_words_of sheet)))) (shows (is_empty (shape_at core sheet (t - 4 * code_of sheet)))) l.lands in
      record {
        i = t - 4 * code_of sheet;
        below = omega (arith, h.0.0, h.0.1);
        xs = [];
        shape = empty_left _ h.1;
        at = subst (λ (p : ℕ). At core sheet p [] st) (omega (arith, h.0.0)) l.at;
      }

  module _ (i : ℕ) (h : i < 4 * code_words_of sheet) (xs : Shape) (shape : shape_at core sheet i ≡ leaves xs) (x : Syllable) (q : syllable_at core sheet i ≡ x) where
    -- The shape after it.
    pub shape_next : shape_at core sheet (suc i) ≡ within (room_of sheet) (syllable_left sheet x xs)
    unfolding shape_at
    shape_next =
        ap (λ (o : Left). carried o (λ xs. within (room_of sheet) (syllable_left sheet (syllable_at core sheet i) xs))) shape
        ∙ ap (λ (y : Syllable). within (room_of sheet) (syllable_left sheet y xs)) q

    pub left_next : broken (within (room_of sheet) (syllable_left sheet x xs)) ≡ false
    left_next = subst (λ (o : Left). broken o ≡ false) shape_next (ok.scan i h)

    -- A syllable that does not close is not the last.
    pub not_last : closes (turn_of x) ≡ false → suc i < 4 * code_words_of sheet
    not_last e = more (ℕ_discrete (suc i) (4 * code_words_of sheet))
      where
        more : Dec (suc i ≡ 4 * code_words_of sheet) → suc i < 4 * code_words_of sheet
        more (yes s) = absurd (false≢true (sym e ∙ subst (λ (y : Syllable). closes (turn_of y) ≡ true) q (ok.last i s)))
        more (no s) = omega arith

    next_place : suc i < 4 * code_words_of sheet → next_of (4 * code_of sheet + i) ≡ 4 * code_of sheet + suc i
    next_place l = omega (arith, ok.code_in, ok.most)

    pub falls : (ys : Shape) → suc i < 4 * code_words_of sheet → within (room_of sheet) (syllable_left sheet x xs) ≡ leaves ys → (u : State) → At core sheet (next_of (4 * code_of sheet + i)) ys u → Inv core sheet u
    falls ys l e u v =
        record { i = suc i; below = l; xs = ys; shape = shape_next ∙ e; at = subst (λ (p : ℕ). At core sheet p ys u) (next_place l) v }

    does_good : (o : Left) → syllable_left sheet x xs ≡ o → broken (within (room_of sheet) o) ≡ false → suc i < 4 * code_words_of sheet → (r : Res State) → Does core sheet (next_of (4 * code_of sheet + i)) o r → Good core sheet (plain r)
    does_good (leaves ys) e b l r d = ended (d (shows_le (length ys) (room_of sheet) t.0))
      where
        t : (leb (length ys) (room_of sheet) ≡ true) × (within (room_of sheet) (leaves ys) ≡ leaves ys)
        t = when_left (leb (length ys) (room_of sheet)) ys b

        ended : {r : Res State} → Safe (At core sheet (next_of (4 * code_of sheet + i)) ys) r → Good core sheet (plain r)
        ended (goes v) = falls ys l (ap (within (room_of sheet)) e ∙ t.1) _ v
        ended (stops a) = a
    does_good breaks e b l r d = absurd (true≢false b)

    -- A syllable that is no branch and does not close.
    pub plain_good : (r : Res State) → closes (turn_of x) ≡ false → Does core sheet (next_of (4 * code_of sheet + i)) (syllable_left sheet x xs) r → Good core sheet (plain r)
    plain_good r c d = does_good (syllable_left sheet x xs) refl left_next (not_last c) r d

  pub always_good : {r : Res State} → Safe (Landed core sheet) r → Good core sheet (plain r)
  always_good (goes l) = landed_inv _ l
  always_good (stops a) = a

  pub last_good : {r : Res State} → Safe (λ (u : State). Kept core sheet u.core) r → Good core sheet (last r)
  last_good (goes k) = k
  last_good (stops a) = a

  pub if_good : {p : ℕ} {r : Res State} → Safe (λ (u : State). Landed core sheet u ⊎ At core sheet p [] u) r → ((u : State) → At core sheet p [] u → Inv core sheet u) → Good core sheet (plain r)
  if_good (goes (inl l)) f = landed_inv _ l
  if_good (goes (inr v)) f = f _ v
  if_good (stops a) f = a
