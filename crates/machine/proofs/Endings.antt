-- How a syllable ends: from its parts to the operator, the fetch and the step.
use Rattle.std.specs.declared.result.Result.TheVariants.{Ok, Err}
use Prim.Native.Nat.{ℕ, ◌+◌, ◌*◌, ◌-◌, ◌/◌, ◌%◌, ◌^◌, ◌≤◌, ◌<◌}
use mathlib.Core.Path.{◌≡◌, refl, sym, ◌∙◌, ap, subst}
use mathlib.Core.Bool.{Bool, true, false, ◌&&◌, false≢true}
use mathlib.Core.List.{List}
use native.Mathlib.Nat.{mod-lt}
use native.Mathlib.Omega.{arith}
use borrow.Author.Tests.{ne_eqb, leb-true}
use lib.Dec.{ltb, leb}
use lib.ListN.{length}
use Rattle.machine.specs.declared.outcome.Registers.{Registers}
use Rattle.machine.specs.Outcomes.{Res, on}
use Rattle.machine.specs.States.{State, set_cl, state_of}
use Rattle.machine.specs.declared.outcome.Refusal.{Refusal}
use Rattle.machine.specs.declared.outcome.Refusal.TheVariants.{Core, Registers as Register, Budget}
use Rattle.machine.specs.Steps.{Ended, plain, operate_of, perform_of, execute_of, registers_fit, refusal_of, step_of, refusal_number, answered}
use Rattle.machine.specs.Memory.{read_of}
use Rattle.syllable.specs.Decoding.{decode_of}
use Rattle.syllable.specs.declared.Operator.{Operator}
use Rattle.syllable.specs.declared.Position.{Position}
use Rattle.syllable.specs.declared.Syllable.{Syllable}
use Rattle.syllable.specs.declared.Syllable.TheVariants.{Operator as Operates}
use Rattle.word.specs.Choices.{if◌then◌otherwise◌}
use Rattle.word.specs.Core.{length_fits, words_fit}
use Rattle.word.specs.declared.cores.CoreError.TheVariants.{Length, Word}
use Rattle.syllable.specs.Positions.{syllable_of, advance_of}
use Rattle.machine.specs.ForCode.Answers.{Went, Ending, Does, Ends, plain_as}

-- ---- an operator: how its parts went is how it ends

pub plains : {core core' : List ℕ} {w : Went} {r : Ending} {o : Res State} {e : Ended} → r ≡ plain_as w → Does core core' w o → plain o ≡ e → Ends core core' r e
plains {core} {core'} {w} {r} {o} {e} p d q = subst (λ (x : Ending). Ends core core' x e) (sym p) (go w d)
  where
    go : (w : Went) → Does core core' w o → Ends core core' (plain_as w) e
    go (Ok g) d = record { same = ap plain d.same ∙ q; kept = refl }
    go (Err n) d = record { same = ap plain d.same ∙ q; kept = d.kept }

-- ---- the fetch

-- A word's syllable has twelve bits.
pub syllable_small : (w l : ℕ) → syllable_of w l % 4096 ≡ syllable_of w l
unfolding syllable_of
syllable_small w l =
    let k : 12 * l + 11 + 1 - 12 * l ≡ 12 = omega arith in
    let h : w / 2 ^ (47 - (12 * l + 11)) % 2 ^ 12 < 4096 = mod-lt (w / 2 ^ (47 - (12 * l + 11))) (omega arith) in
    rw k (omega arith)

-- What an operator's syllable does.
pub operates : {o : Operator} {s : Syllable} {p : Position} (core : List ℕ) (g : Registers) (w y : ℕ) → read_of core g.c ≡ on w → y ≡ syllable_of w g.l → s ≡ decode_of (y % 4096) → p ≡ advance_of g.c g.l → s ≡ Operates o → execute_of (state_of core g) ≡ operate_of g.c o (state_of core (set_cl g p.c p.l))
unfolding execute_of perform_of
operates {o} core g w y e t d a k =
    let q : decode_of (syllable_of w g.l) ≡ Operates o = ap decode_of (sym (syllable_small w g.l) ∙ ap (λ (n : ℕ). n % 4096) (sym t)) ∙ sym d ∙ k in
    rw (e, q) (ap (λ (x : Position). operate_of g.c o (state_of core (set_cl g x.c x.l))) (sym a))

-- ---- the step

pub positive : (e : Refusal) → 0 < refusal_number e
positive (Core Length) = omega arith
positive (Core Word) = omega arith
positive Register = omega arith
positive Budget = omega arith

pub refused : (core : List ℕ) (g : Registers) (e : Refusal) → refusal_number e ≡ refusal_of core g → answered g (Err e) core ≡ step_of core g
unfolding step_of if◌then◌otherwise◌
refused core g e h = rw (← h, ne_eqb (refusal_number e) 0 (λ z. omega (arith, positive e, z)))

-- A core that passes the checks has at most 32,768 words.
pub refusal_length : (core : List ℕ) (g : Registers) → 0 ≡ refusal_of core g → length core ≤ 32768
unfolding refusal_of if◌then◌otherwise◌ length_fits
refusal_length core g e = go (length_fits core) refl e
  where
    go : (b : Bool) → length_fits core ≡ b → ◌≡◌ {A = ℕ} 0 (if b then (if words_fit core then (if registers_fit g then 0 otherwise 3) otherwise 2) otherwise 1) → length core ≤ 32768
    go true t f = leb-true (length core) 32768 (second (ltb 0 (length core)) (leb (length core) 32768) t)
      where
        second : (a b : Bool) → (a && b) ≡ true → b ≡ true
        second true b h = h
        second false b h = absurd (false≢true h)
    go false t f = absurd (omega arith)
