-- A number out of range stays so when it is narrowed: the machine refuses the set by the same number, and a set that it takes is itself.
use Prim.Native.Nat.{ℕ, ◌≤◌}
use mathlib.Core.Path.{◌≡◌, refl, sym, ◌∙◌, ap}
use mathlib.Core.Bool.{Bool, true, false, true≢false}
use mathlib.Core.List.{List}
use native.Mathlib.Omega.{arith}
use borrow.Author.Tests.{eq-eqb, eqb-true, le-leb, le-ltb, leb-false}
use lib.Dec.{eqb, ltb, leb}
use Rattle.word.specs.Choices.{if◌then◌otherwise◌}
use Rattle.machine.specs.declared.outcome.Registers.{Registers}
use Rattle.machine.specs.States.{state_of}
use Rattle.machine.specs.Steps.{registers_fit, refusal_of}
use Rattle.laws.specs.Fit.{Fit}
use Rattle.laws.proofs.FitChecks.{fit_refusal}
use Rattle.cabinet.specs.ForCode.Rooms.{narrow_of, narrow_set}

narrow_ltb : (most k x : ℕ) → k ≤ most → ltb (narrow_of most x) k ≡ ltb x k
unfolding narrow_of if◌then◌otherwise◌
narrow_ltb most k x h = by (leb x most) refl
  where
    by : (b : Bool) → leb x most ≡ b → ltb (if b then x otherwise most) k ≡ ltb x k
    by true e = refl
    by false e = le-ltb most k h ∙ sym (le-ltb x k (omega (arith, leb-false x most e)))

narrow_kept : (most x : ℕ) → x ≤ most → narrow_of most x ≡ x
unfolding narrow_of if◌then◌otherwise◌
narrow_kept most x h = rw (le-leb x most h)

narrow_refusal : (words : List ℕ) (g : Registers) → refusal_of words (narrow_set g) ≡ refusal_of words g
unfolding refusal_of registers_fit narrow_set
narrow_refusal words g =
    rw (narrow_ltb 65535 32768 g.s (omega arith), narrow_ltb 65535 32768 g.f (omega arith), narrow_ltb 65535 32768 g.c (omega arith), narrow_ltb 65535 512 g.r (omega arith), narrow_ltb 255 4 g.l (omega arith))

narrow_set_is : (words : List ℕ) (g : Registers) → refusal_of words g ≡ 0 → narrow_set g ≡ g
unfolding narrow_set
narrow_set_is words g e =
    let f : Fit (state_of words g) = (fit_refusal words g).0 e in
    rw (narrow_kept 65535 g.s (omega (arith, f.regs.s)), narrow_kept 65535 g.f (omega (arith, f.regs.f)), narrow_kept 65535 g.c (omega (arith, f.regs.c)), narrow_kept 65535 g.r (omega (arith, f.regs.r)), narrow_kept 255 g.l (omega (arith, f.regs.l)))

-- What answers a refused set by the refusal alone answers a narrowed set as the set itself.
pub narrowed : {A : Type 0} (answer : Registers → A) (away : ℕ → A) (words : List ℕ) (g : Registers)
    → ((h : Registers) → (refusal_of words h ≡ 0 → ⊥) → answer h ≡ away (refusal_of words h)) → answer (narrow_set g) ≡ answer g
narrowed answer away words g refuses = by (eqb (refusal_of words g) 0) refl
  where
    by : (b : Bool) → eqb (refusal_of words g) 0 ≡ b → answer (narrow_set g) ≡ answer g
    by true e = ap answer (narrow_set_is words g (eqb-true (refusal_of words g) 0 e))
    by false e =
        let n : refusal_of words g ≡ 0 → ⊥ = λ z. true≢false (sym (eq-eqb (refusal_of words g) 0 z) ∙ e) in
        refuses (narrow_set g) (λ z. n (sym (narrow_refusal words g) ∙ z)) ∙ ap away (narrow_refusal words g) ∙ sym (refuses g n)
