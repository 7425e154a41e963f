-- The pushes, pops and adjustments of a passed segment go on, and keep the shape of the stack.
use Prim.Native.Nat.{ℕ, ◌+◌, ◌/◌, ◌≤◌, ◌<◌}
use mathlib.Core.Path.{◌≡◌, refl, sym, ◌∙◌, ap, subst}
use mathlib.Core.List.{List, ◌∷◌}
use native.Mathlib.Omega.{arith}
use borrow.Author.Tests.{ltb-false, eqb-true}
use lib.Dec.{eqb, ltb}
use lib.ListN.{length, get_or, set}
use lib.Seq.{get_or-set_same}
use Rattle.machine.specs.States.{State, empty_a, empty_b, fill_b, with_s, store}
use Rattle.machine.specs.Memory.{in_core, read_of}
use Rattle.machine.specs.Stack.{slot_of, push_of, top_of, push_b_of, a_empty_of, a_full_of, b_full_of, both_full_of}
use Rattle.sheet.specs.Sheets.{s_of, room_of}
use Rattle.inspector.specs.Scan.{Item, Shape}
use Rattle.demands.specs.Stays.{StackWord}
use Rattle.demands.proofs.Safe.{Safe, goes, safe_if, safe_bind, safe_map}
use Rattle.demands.proofs.Passed.{Passed}
use Rattle.demands.proofs.Holds.{Fits, Under, Kept, Set, RestOf, At, EmptyA, FullA, EmptyB, FullB, Both}
use Rattle.demands.proofs.Cores.{keep_stack}
use Rattle.demands.proofs.Stacks.{under_height, under_set, register_off, register_on, register_front, rest_off, rest_front, rest_full, rest_empty, rest_none}

-- What is in core is found, and read.
pub in_core_safe : (len m : ℕ) → m < len → Safe (λ (n : ℕ). n ≡ m) (in_core len m)
unfolding in_core
in_core_safe len m h = safe_if (ltb m len) (λ _. goes refl) (λ e. absurd (omega (arith, ltb-false m len e)))

pub read_safe : (core : List ℕ) (m : ℕ) → m < length core → Safe (λ (w : ℕ). w ≡ get_or core m 0) (read_of core m)
unfolding read_of
read_safe core m h = safe_bind (in_core_safe (length core) m h) (λ at e. goes (ap (λ (at : ℕ). get_or core at 0) e))

slot_safe : (len s r : ℕ) → ((s + 1) / 64 ≡ r → ⊥) → s + 1 < len → Safe (λ (m : ℕ). m ≡ s + 1) (slot_of len s r)
unfolding slot_of
slot_safe len s r h i = safe_if (eqb ((s + 1) / 64) r) (λ e. absurd (h (eqb-true _ _ e))) (λ _. in_core_safe len (s + 1) i)

top_safe : (core : List ℕ) (s : ℕ) → 0 < s → s < length core → Safe (λ (w : ℕ). w ≡ get_or core s 0) (top_of core s)
unfolding top_of
top_safe core s h i = safe_if (eqb s 0) (λ e. absurd (omega (arith, eqb-true s 0 e))) (λ _. read_safe core s i)

module _ (core sheet : List ℕ) (ok : Passed core sheet) (p : ℕ) where
  abbrev SetOf : State → Type 0
  SetOf st = Set sheet p st.regs.r st.regs.salf st.regs.c st.regs.l

  push_safe : (st : State) (w : ℕ) → Kept core sheet st.core → SetOf st → StackWord sheet (st.regs.s + 1) → Safe (λ (u : State). u ≡ with_s (store st (st.regs.s + 1) w) (st.regs.s + 1)) (push_of st w)
  unfolding push_of
  push_safe st w k h sw =
      safe_bind
      (slot_safe (length st.core) st.regs.s st.regs.r
      (λ e. ok.table_stack (st.regs.s + 1) (omega (arith, e, h.table)) (omega (arith, e, h.table, ok.page)) (omega (arith, sw.above)) (omega (arith, sw.within)))
      (omega (arith, k.size, sw.within, ok.stack_in)))
      (λ m e. goes (ap (λ (m : ℕ). with_s (store st m w) m) e))

  -- The state that a push of B leaves.
  abbrev pushed_b : State → State
  pushed_b st = empty_b (with_s (store st (st.regs.s + 1) st.regs.b) (st.regs.s + 1))

  slot_word : (st : State) (x : Item) (low : Shape) → Under core sheet st.core st.regs.s low → length (x ∷ low) ≤ room_of sheet → StackWord sheet (st.regs.s + 1)
  slot_word st x low u room =
      let t : st.regs.s ≡ s_of sheet + length low = under_height core sheet st.core st.regs.s low u in
      record { above = omega arith; within = omega arith }

  pushed : (st : State) (x : Item) (low : Shape) → Kept core sheet st.core → SetOf st → Fits core sheet x st.regs.b → Under core sheet st.core st.regs.s low → StackWord sheet (st.regs.s + 1) → EmptyB core sheet p st (x ∷ low) (pushed_b st)
  pushed st x low k h f u sw =
      let at : get_or (set st.core (st.regs.s + 1) st.regs.b) (st.regs.s + 1) 0 ≡ st.regs.b =
      get_or-set_same st.core (st.regs.s + 1) st.regs.b 0 (omega (arith, k.size, sw.within, ok.stack_in)) in
      record {
        kept = keep_stack core sheet ok st.core k (st.regs.s + 1) st.regs.b sw;
        set = h;
        was = record { full = refl; a = refl };
        off = refl;
        under = (
          sw.above,
          subst (λ (w : ℕ). Fits core sheet x w) (sym at) f,
          subst (λ (s : ℕ). Under core sheet (set st.core (st.regs.s + 1) st.regs.b) s low) (omega arith)
              (under_set core sheet st.core (st.regs.s + 1) st.regs.b st.regs.s low (λ j q s e. omega arith) u),
        );
      }

  pub push_b : (st : State) (xs : Shape) → Kept core sheet st.core → SetOf st → RestOf core sheet xs st → length xs ≤ room_of sheet → Safe (EmptyB core sheet p st xs) (push_b_of st)
  unfolding push_b_of
  push_b st xs k h r room =
      safe_if st.regs.bfull
      (λ e.
      let t = register_on core sheet r.top e in
      let sw : StackWord sheet (st.regs.s + 1) = slot_word st t.0 r.low r.under (subst (λ (ys : Shape). length ys ≤ room_of sheet) (sym t.1) room) in
      let v : EmptyB core sheet p st xs (pushed_b st) = subst (λ (ys : Shape). EmptyB core sheet p st ys (pushed_b st)) t.1 (pushed st t.0 r.low k h t.2 r.under sw) in
      safe_bind (push_safe st st.regs.b k h sw) (λ u q. goes (subst (λ (u : State). EmptyB core sheet p st xs (empty_b u)) (sym q) v)))
      (λ e. goes (record { kept = k; set = h; was = record { full = refl; a = refl }; off = e; under = rest_off core sheet r e }))

  pub a_empty : (st : State) (xs : Shape) → At core sheet p xs st → Safe (EmptyA core sheet p xs) (a_empty_of st)
  unfolding a_empty_of
  a_empty st xs v =
      safe_if st.regs.afull
      (λ e.
      let t = register_on core sheet v.top e in
      safe_bind (push_b st v.mid v.kept v.set v.rest (omega (arith, v.room, ap length t.1)))
      (λ u i. goes (record {
        kept = i.kept;
        set = i.set;
        off = refl;
        rest = subst (λ (ys : Shape). RestOf core sheet ys (empty_a (fill_b u u.regs.a))) t.1
            (rest_full core sheet (subst (λ (w : ℕ). Fits core sheet t.0 w) (sym i.was.a) t.2) i.under);
      })))
      (λ e. goes (record {
        kept = v.kept;
        set = v.set;
        off = e;
        rest = subst (λ (ys : Shape). RestOf core sheet ys st) (register_off core sheet v.top e) v.rest;
      }))

  -- A pop reads the word at S, which matches the top item.
  pop_safe : (st : State) (x : Item) (xs : Shape) → Kept core sheet st.core → Under core sheet st.core st.regs.s (x ∷ xs) → length (x ∷ xs) ≤ room_of sheet → Safe (Fits core sheet x) (top_of st.core st.regs.s)
  pop_safe st x xs k u room =
      safe_map (top_safe st.core st.regs.s (omega (arith, u.0)) (omega (arith, k.size, ok.stack_in, under_height core sheet st.core st.regs.s (x ∷ xs) u)))
      (λ w e. subst (λ (w : ℕ). Fits core sheet x w) (sym e) u.1)

  pub a_full : (st : State) (x : Item) (xs : Shape) → At core sheet p (x ∷ xs) st → Safe (FullA core sheet p x xs) (a_full_of st)
  unfolding a_full_of
  a_full st x xs v =
      safe_if st.regs.afull
      (λ e.
      let t = register_front core sheet v.top e in
      goes (record { kept = v.kept; set = v.set; on = e; a = t.0; rest = subst (λ (ys : Shape). RestOf core sheet ys st) t.1 v.rest }))
      (λ e.
      let r : RestOf core sheet (x ∷ xs) st = subst (λ (ys : Shape). RestOf core sheet ys st) (register_off core sheet v.top e) v.rest in
      safe_if st.regs.bfull
      (λ f.
      let t = rest_front core sheet r f in
      goes (record { kept = v.kept; set = v.set; on = refl; a = t.0; rest = rest_empty core sheet t.1 }))
      (λ f.
      let u : Under core sheet st.core st.regs.s (x ∷ xs) = rest_off core sheet r f in
      safe_bind (pop_safe st x xs v.kept u v.room)
      (λ w i. goes (record { kept = v.kept; set = v.set; on = refl; a = i; rest = rest_none core sheet f u.2 }))))

  pub b_full : (st : State) (y : Item) (ys : Shape) → Kept core sheet st.core → SetOf st → RestOf core sheet (y ∷ ys) st → length (y ∷ ys) ≤ room_of sheet → Safe (FullB core sheet p st y ys) (b_full_of st)
  unfolding b_full_of
  b_full st y ys k h r room =
      safe_if st.regs.bfull
      (λ e.
      let t = rest_front core sheet r e in
      goes (record { kept = k; set = h; was = record { full = refl; a = refl }; on = e; b = t.0; under = t.1 }))
      (λ e.
      let u : Under core sheet st.core st.regs.s (y ∷ ys) = rest_off core sheet r e in
      safe_bind (pop_safe st y ys k u room)
      (λ w i. goes (record { kept = k; set = h; was = record { full = refl; a = refl }; on = refl; b = i; under = u.2 })))

  pub both_full : (st : State) (x y : Item) (xs : Shape) → At core sheet p (x ∷ y ∷ xs) st → Safe (Both core sheet p x y xs) (both_full_of st)
  unfolding both_full_of
  both_full st x y xs v =
      safe_bind (a_full st x (y ∷ xs) v)
      (λ u i. safe_map (b_full u y xs i.kept i.set i.rest (omega (arith, v.room)))
      (λ t j. record {
        kept = j.kept;
        set = j.set;
        a_on = j.was.full ∙ i.on;
        b_on = j.on;
        a = subst (λ (w : ℕ). Fits core sheet x w) (sym j.was.a) i.a;
        b = j.b;
        under = j.under;
      }))
