-- A step leaves a state that passes the checks in one that passes them, and a stop leaves all as it was.
use Prim.Native.Nat.{ℕ}
use mathlib.Core.Path.{◌≡◌, refl, ap}
use mathlib.Core.Logic.{◌≢◌}
use mathlib.Core.Bool.{Bool, true, false}
use mathlib.Core.List.{List}
use borrow.Author.Tests.{eq-eqb}
use lib.Dec.{eqb}
use lib.ListN.{length}
use Rattle.machine.specs.declared.outcome.Registers.{Registers}
use Rattle.word.specs.Choices.{if◌then◌otherwise◌}
use Rattle.machine.specs.States.{State, state_of}
use Rattle.machine.specs.Steps.{Ended, next, communicated, stopped, execute_of, refusal_of, Stepped, ended_as, step_of}
use Rattle.laws.specs.Fit.{Fit, Keeps, After}
use Rattle.laws.proofs.FitExecute.{execute_fit}
use Rattle.laws.proofs.FitChecks.{fit_refusal}

-- The state that a step leaves.
abbrev left : Stepped → State
left s = state_of s.core s.regs

ended_fit : (e : Ended) (st : State) → Fit st → After (Keeps st) e → Keeps st (left (ended_as e st))
ended_fit (next u) st f k = k
ended_fit (communicated u) st f k = k
ended_fit (stopped n) st f k = record { fit = f; size = refl }

step_keeps : (core : List ℕ) (g : Registers) → refusal_of core g ≡ 0 → Keeps (state_of core g) (left (step_of core g))
unfolding step_of if◌then◌otherwise◌
step_keeps core g e =
    let f : Fit (state_of core g) = (fit_refusal core g).0 e in
    rw (eq-eqb (refusal_of core g) 0 e) (ended_fit (execute_of (state_of core g)) (state_of core g) f (execute_fit (state_of core g) f))

pub step_fit : (core : List ℕ) (g : Registers) → refusal_of core g ≡ 0 → refusal_of (step_of core g).core (step_of core g).regs ≡ 0
step_fit core g e = (fit_refusal (step_of core g).core (step_of core g).regs).1 (step_keeps core g e).fit

pub step_length : (core : List ℕ) (g : Registers) → refusal_of core g ≡ 0 → length (step_of core g).core ≡ length core
step_length core g e = (step_keeps core g e).size

-- "Every number but 17 leaves registers and core as before that syllable."
ended_kept : (e : Ended) (st : State) → (ended_as e st).number ≢ 0 → (ended_as e st).number ≢ 17 → left (ended_as e st) ≡ st
ended_kept (next u) st p q = absurd (p refl)
ended_kept (communicated u) st p q = absurd (q refl)
ended_kept (stopped n) st p q = refl

-- What a step answers, its checks passed or not.
abbrev answer : Bool → Ended → State → ℕ → Stepped
answer passed e st n = if passed then ended_as e st otherwise record { number = n; core = st.core; regs = st.regs }

answer_kept : (passed : Bool) (e : Ended) (st : State) (n : ℕ) → (answer passed e st n).number ≢ 0 → (answer passed e st n).number ≢ 17 → left (answer passed e st n) ≡ st
unfolding if◌then◌otherwise◌
answer_kept true e st n p q = ended_kept e st p q
answer_kept false e st n p q = refl

pub step_kept : (core : List ℕ) (g : Registers) → (step_of core g).number ≢ 0 → (step_of core g).number ≢ 17 → ((step_of core g).core ≡ core) × ((step_of core g).regs ≡ g)
unfolding step_of
step_kept core g p q =
    let e : left (step_of core g) ≡ state_of core g = answer_kept (eqb (refusal_of core g) 0) (execute_of (state_of core g)) (state_of core g) (refusal_of core g) p q in
    (ap (λ (st : State). st.core) e, ap (λ (st : State). st.regs) e)
