-- The adjustments keep the stack; a push of a word, and LITC, put it on top.
use Prim.Native.Nat.{ℕ, suc, ◌+◌, ◌-◌, ◌<◌}
use mathlib.Core.Path.{◌≡◌, refl, sym, ◌∙◌, ap}
use mathlib.Core.Bool.{true, false}
use mathlib.Core.List.{List, [], ◌∷◌, ◌++◌, append-nil, append_assoc}
use native.Mathlib.Omega.{arith}
use borrow.Author.Tests.{ltb-true, eqb-false}
use lib.Dec.{eqb, ltb}
use lib.ListN.{length, get_or, set, take}
use lib.Seq.{take-suc, take-suc-set}
use Rattle.word.specs.Choices.{if◌then◌otherwise◌}
use Rattle.machine.specs.Outcomes.{on}
use Rattle.machine.specs.States.{State, empty_a, fill_a, fill_b, with_s, store}
use Rattle.machine.specs.Memory.{in_core, read_of}
use Rattle.machine.specs.Stack.{stack_of, push_of, top_of, push_b_of, a_empty_of, a_full_of, b_full_of, both_full_of}
use Rattle.machine.specs.Stores.{litc_of}
use Rattle.machine.proofs.Sizes.{Gives, goes, stops, gives_if, gives_bind, gives, given, slot_gives}

-- A word that goes to S+1 of core stands above what core held up to S, and one that comes from S stood there.
up : (core : List ℕ) (s w : ℕ) (rest : List ℕ) → s + 1 < length core → take (s + 1 + 1) (set core (s + 1) w) ++ rest ≡ take (s + 1) core ++ (w ∷ rest)
up core s w rest h =
    let n : s + 1 + 1 ≡ suc (s + 1) = omega arith in
    ap (λ (n : ℕ). take n (set core (s + 1) w) ++ rest) n ∙ ap (λ (l : List ℕ). l ++ rest) (take-suc-set core (s + 1) w h) ∙ append_assoc (take (s + 1) core) (w ∷ []) rest

below : (core : List ℕ) (s : ℕ) (rest : List ℕ) → 0 < s → s < length core → take (s - 1 + 1) core ++ (get_or core s 0 ∷ rest) ≡ take (s + 1) core ++ rest
below core s rest p h =
    let m : s - 1 + 1 ≡ s = omega arith in
    let n : s + 1 ≡ suc s = omega arith in
    ap (λ (n : ℕ). take n core ++ (get_or core s 0 ∷ rest)) m ∙ sym (ap (λ (n : ℕ). take n core ++ rest) n ∙ ap (λ (l : List ℕ). l ++ rest) (take-suc core s 0 h) ∙ append_assoc (take s core) (get_or core s 0 ∷ []) rest)

-- The stack with what the registers hold as one part.
abbrev low : State → List ℕ
low st = take (st.regs.s + 1) st.core

abbrev middle : State → List ℕ
middle st = if st.regs.bfull then st.regs.b ∷ [] otherwise []

abbrev high : State → List ℕ
high st = middle st ++ (if st.regs.afull then st.regs.a ∷ [] otherwise [])

parts : (st : State) → stack_of st ≡ low st ++ high st
unfolding stack_of
parts st = append_assoc (low st) _ _

-- Two states with the same parts have the same stack.
abbrev Same : State → State → Type 0
Same st u = low u ++ high u ≡ low st ++ high st

same : (st u : State) → Same st u → stack_of u ≡ stack_of st
same st u e = parts u ∙ e ∙ sym (parts st)

-- What a pop reads.
top_gives : (core : List ℕ) (s : ℕ) → Gives (λ (w : ℕ). (w ≡ get_or core s 0) × (0 < s) × (s < length core)) (top_of core s)
unfolding top_of read_of in_core
top_gives core s =
    gives_if (eqb s 0) (λ _. stops)
    (λ t. gives_bind {P = λ (m : ℕ). (m ≡ s) × (s < length core)} (gives_if (ltb s (length core)) (λ h. goes (refl, ltb-true s (length core) h)) (λ _. stops))
    (λ m h. goes (ap (λ (m : ℕ). get_or core m 0) h.0, pos_of s (eqb-false s 0 t), h.1)))
  where
    pos_of : (n : ℕ) → (n ≡ 0 → ⊥) → 0 < n
    pos_of n h = omega arith

-- A moved to an empty B, and a word put in an empty A.
moved : (u : State) → u.regs.bfull ≡ false → u.regs.afull ≡ true → Same u (empty_a (fill_b u u.regs.a))
unfolding if◌then◌otherwise◌
moved u p q = rw (p, q)

put : (v : State) (k : ℕ) → v.regs.afull ≡ false → stack_of (fill_a v k) ≡ stack_of v ++ (k ∷ [])
unfolding stack_of if◌then◌otherwise◌
put v k p = rw p (ap (λ (l : List ℕ). l ++ (k ∷ [])) (sym (append-nil (low v ++ middle v))))

module _ (st : State) where
  push_gives : (w : ℕ) → Gives (λ (u : State). (u ≡ with_s (store st (st.regs.s + 1) w) (st.regs.s + 1)) × (st.regs.s + 1 < length st.core)) (push_of st w)
  unfolding push_of
  push_gives w =
      gives_bind (slot_gives (length st.core) st.regs.s st.regs.r)
      (λ m h. goes (ap (λ (m : ℕ). with_s (store st m w) m) h.1, omega (arith, h.0, h.1)))

  push_b_gives : Gives (λ (u : State). Same st u × (u.regs.bfull ≡ false) × (u.regs.afull ≡ st.regs.afull)) (push_b_of st)
  unfolding push_b_of if◌then◌otherwise◌
  push_b_gives =
      gives_if st.regs.bfull
      (λ e. gives_bind (push_gives st.regs.b) (λ u h. goes (rw (h.0, e) (up st.core st.regs.s st.regs.b _ h.1), refl, rw h.0)))
      (λ e. goes (refl, e, refl))

  a_empty_gives : Gives (λ (u : State). Same st u × (u.regs.afull ≡ false)) (a_empty_of st)
  unfolding a_empty_of
  a_empty_gives = gives_if st.regs.afull (λ e. gives_bind push_b_gives (λ u h. goes (moved u h.1 (h.2 ∙ e) ∙ h.0, refl))) (λ e. goes (refl, e))

  a_full_gives : Gives (Same st) (a_full_of st)
  unfolding a_full_of if◌then◌otherwise◌
  a_full_gives =
      gives_if st.regs.afull (λ _. goes refl)
      (λ p. gives_if st.regs.bfull (λ q. goes (rw (p, q)))
      (λ q. gives_bind (top_gives st.core st.regs.s) (λ w h. goes (rw (p, q, h.0) (below st.core st.regs.s [] h.1 h.2)))))

  b_full_gives : Gives (Same st) (b_full_of st)
  unfolding b_full_of if◌then◌otherwise◌
  b_full_gives =
      gives_if st.regs.bfull (λ _. goes refl)
      (λ q. gives_bind (top_gives st.core st.regs.s) (λ w h. goes (rw (q, h.0) (below st.core st.regs.s _ h.1 h.2))))

module _ (st u : State) where
  pub a_empty_stack : a_empty_of st ≡ on u → stack_of u ≡ stack_of st
  a_empty_stack e = same st u (given (a_empty_gives st) e).0

  pub a_full_stack : a_full_of st ≡ on u → stack_of u ≡ stack_of st
  a_full_stack e = same st u (given (a_full_gives st) e)

  pub b_full_stack : b_full_of st ≡ on u → stack_of u ≡ stack_of st
  b_full_stack e = same st u (given (b_full_gives st) e)

  pub push_stack : (w : ℕ) → st.regs.afull ≡ false → st.regs.bfull ≡ false → push_of st w ≡ on u → stack_of u ≡ stack_of st ++ (w ∷ [])
  unfolding stack_of if◌then◌otherwise◌
  push_stack w p q e =
      let h = given (push_gives st w) e in
      rw (h.0, p, q) (ap (λ (l : List ℕ). l ++ []) (up st.core st.regs.s w [] h.1) ∙ append-nil (low st ++ (w ∷ [])) ∙ ap (λ (l : List ℕ). l ++ (w ∷ [])) (sym (append-nil (low st ++ []) ∙ append-nil (low st))))

  pub litc_stack : (k : ℕ) → litc_of st k ≡ on u → stack_of u ≡ stack_of st ++ (k ∷ [])
  unfolding litc_of
  litc_stack k e = given {P = λ (v : State). stack_of v ≡ stack_of st ++ (k ∷ [])} (gives_bind (a_empty_gives st) (λ v h. goes (put v k h.1 ∙ ap (λ (l : List ℕ). l ++ (k ∷ [])) (same st v h.0)))) e

pub both_full_stack : (st u : State) → both_full_of st ≡ on u → stack_of u ≡ stack_of st
unfolding both_full_of
both_full_stack st u e = given (gives_bind (a_full_gives st) (λ v h. gives (b_full_of v) (λ w i. b_full_stack v w i ∙ same st v h))) e
