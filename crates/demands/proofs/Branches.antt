-- The branches land where rule 35 looked, with an empty stack.
use Prim.Native.Nat.{ℕ, ◌+◌, ◌*◌, ◌/◌, ◌%◌}
use mathlib.Core.Path.{◌≡◌, refl, sym, ◌∙◌, ap, subst}
use mathlib.Core.Logic.{◌⊎◌, inl, inr}
use mathlib.Core.Bool.{Bool, true, false, true≢false}
use mathlib.Core.List.{List, [], ◌∷◌}
use native.Mathlib.Omega.{arith}
use borrow.Author.Tests.{not-false}
use Rattle.machine.specs.Outcomes.{Res, on, halt}
use Rattle.machine.specs.States.{State, empty_a, empty_b, with_cl}
use Rattle.machine.specs.Branches.{landing_of, jump_of, always_of, if_off_of}
use Rattle.word.specs.Field.{field, bit}
use Rattle.word.specs.Layout.{flag_of}
use Rattle.inspector.specs.Scan.{literal, number, place, Shape, Left, leaves, breaks, when, value, branched, branched_if}
use Rattle.inspector.specs.Targets.{lands, distance, misses_at}
use Rattle.demands.proofs.Safe.{Safe, goes, safe_if, safe_bind, safe_map}
use Rattle.demands.proofs.Passed.{Passed}
use Rattle.demands.proofs.Holds.{Fits, is, At, empty}
use Rattle.demands.proofs.Stacks.{rest_empty}
use Rattle.demands.proofs.Adjusts.{a_full, both_full}
use Rattle.demands.proofs.Words.{small_off}

-- Something holds of a syllable that the scan does not break.
abbrev pub Unbroken : Left → Type 0 → Type 0
Unbroken (leaves xs) P = P
Unbroken breaks P = Unit {0}

pub unbroken_when : (b : Bool) (xs : Shape) {P : Type 0} → (b ≡ true → P) → Unbroken (when b xs) P
unbroken_when true xs f = f refl
unbroken_when false xs f = tt

-- A state at a syllable of the code with an empty shape before it.
pub record Landed (core sheet : List ℕ) (st : State) : Type 0 where
  pub target : ℕ
  pub lands : lands core sheet target ≡ true
  pub at : At core sheet target [] st

module _ (core sheet : List ℕ) (ok : Passed core sheet) (p : ℕ) where
  landing_safe : (o : Res ℕ) → misses_at core sheet o ≡ false → Safe (λ (t : ℕ). lands core sheet t ≡ true) o
  landing_safe (on t) e = goes (not-false _ e)
  landing_safe (halt n) e = absurd (true≢false e)

  placed : (t : ℕ) (st : State) → At core sheet p [] st → At core sheet t [] (with_cl st (t / 4) (t % 4))
  placed t st v =
      record {
        kept = v.kept;
        set = record { table = v.set.table; level = v.set.level; place = omega arith; low = omega arith };
        room = v.room;
        mid = v.mid;
        top = v.top;
        rest = v.rest;
      }

  jump_safe : (back : Bool) (st : State) (k w : ℕ) → misses_at core sheet (landing_of back p k) ≡ false → Fits core sheet (literal k) w → At core sheet p [] st → Safe (Landed core sheet) (jump_of back st w)
  unfolding jump_of
  jump_safe back st k w e (is h) v =
      let d : field k 36 47 ≡ k = omega arith in
      let o : landing_of back p k ≡ landing_of back (4 * st.regs.c + st.regs.l) (field k 36 47) =
      ap (λ (n : ℕ). landing_of back n k) (sym v.set.place) ∙ ap (landing_of back (4 * st.regs.c + st.regs.l)) (sym d) in
      safe_if (flag_of k) (λ f. absurd (true≢false (sym f ∙ small_off k h)))
      (λ _. safe_bind (landing_safe _ (subst (λ (o : Res ℕ). misses_at core sheet o ≡ false) o e))
      (λ t l. goes (record { target = t; lands = l; at = placed t st v })))

  pub always_ends : (back : Bool) (st : State) (xs : Shape) → misses_at core sheet (landing_of back p (distance (leaves xs))) ≡ false → At core sheet p xs st → Unbroken (branched xs) (Safe (Landed core sheet) (always_of back st))
  unfolding always_of
  always_ends back st [] e v = tt
  always_ends back st (literal k ∷ []) e v =
      safe_bind (a_full core sheet ok p st (literal k) [] v)
      (λ u i. jump_safe back (empty_a u) k u.regs.a e i.a (record { kept = i.kept; set = i.set; room = omega arith; mid = []; top = empty; rest = i.rest }))
  always_ends back st (literal k ∷ b ∷ xs) e v = tt
  always_ends back st (number ∷ xs) e v = tt
  always_ends back st (place ∷ xs) e v = tt

  pub if_off_ends : (back : Bool) (st : State) (xs : Shape) → misses_at core sheet (landing_of back p (distance (leaves xs))) ≡ false → At core sheet p xs st → Unbroken (branched_if xs) (Safe (λ (u : State). Landed core sheet u ⊎ At core sheet p [] u) (if_off_of back st))
  unfolding if_off_of
  if_off_ends back st [] e v = tt
  if_off_ends back st (literal k ∷ []) e v = tt
  if_off_ends back st (literal k ∷ b ∷ []) e v =
      unbroken_when (value b) []
      (λ _. safe_bind (both_full core sheet ok p st (literal k) b [] v)
      (λ u i.
      let none : At core sheet p [] (empty_b (empty_a u)) = record { kept = i.kept; set = i.set; room = omega arith; mid = []; top = empty; rest = rest_empty core sheet i.under } in
      safe_if (bit u.regs.b 47) (λ _. goes (inr none))
      (λ _. safe_map (jump_safe back (empty_b (empty_a u)) k u.regs.a e i.a none) (λ w l. inl l))))
  if_off_ends back st (literal k ∷ b ∷ c ∷ xs) e v = tt
  if_off_ends back st (number ∷ xs) e v = tt
  if_off_ends back st (place ∷ xs) e v = tt
