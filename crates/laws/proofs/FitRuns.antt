-- A run leaves a state that passes the checks in one that passes them, and keeps the length of the core.
use Prim.Native.Nat.{ℕ, zero, suc}
use mathlib.Core.Path.{◌≡◌, refl, ◌∙◌}
use mathlib.Core.Bool.{Bool, true, false}
use mathlib.Core.List.{List}
use borrow.Author.Tests.{eq-eqb}
use lib.Dec.{leb}
use lib.ListN.{length}
use Rattle.machine.specs.declared.outcome.Registers.{Registers}
use Rattle.word.specs.Choices.{if◌then◌otherwise◌}
use Rattle.machine.specs.States.{State, state_of}
use Rattle.machine.specs.Steps.{Ended, next, communicated, stopped, execute_of, refusal_of}
use Rattle.machine.specs.Runs.{Run, ends_at, goes_on, run_from, run_of}
use Rattle.laws.specs.Fit.{Fit, Keeps, After}
use Rattle.laws.proofs.FitExecute.{execute_fit}
use Rattle.laws.proofs.FitChecks.{fit_refusal}

-- The state that a run leaves.
abbrev left : Run → State
left r = state_of r.core r.regs

-- One syllable, and the rest from the state that it leaves.
goes_on_keeps : (e : Ended) (rest : State → Run) (st : State) → Fit st → After (Keeps st) e → ((u : State) → Fit u → Keeps u (left (rest u))) → Keeps st (left (goes_on e rest st))
goes_on_keeps (next u) rest st f k h = record { fit = (h u k.fit).fit; size = (h u k.fit).size ∙ k.size }
goes_on_keeps (communicated u) rest st f k h = k
goes_on_keeps (stopped c) rest st f k h = record { fit = f; size = refl }

from_keeps : (n : ℕ) (st : State) → Fit st → Keeps st (left (run_from n st))
unfolding run_from
from_keeps zero st f = record { fit = f; size = refl }
from_keeps (suc n) st f = goes_on_keeps (execute_of st) (run_from n) st f (execute_fit st f) (from_keeps n)

run_keeps : (core : List ℕ) (g : Registers) (budget : ℕ) → refusal_of core g ≡ 0 → Keeps (state_of core g) (left (run_of core g budget))
unfolding run_of if◌then◌otherwise◌
run_keeps core g budget e =
    let f : Fit (state_of core g) = (fit_refusal core g).0 e in
    rw (eq-eqb (refusal_of core g) 0 e) (by (leb budget 1000000) f)
  where
    by : (within : Bool) → Fit (state_of core g) → Keeps (state_of core g) (left (if within then run_from budget (state_of core g) otherwise ends_at 5 0 (state_of core g)))
    by true f = from_keeps budget (state_of core g) f
    by false f = record { fit = f; size = refl }

pub run_fit : (core : List ℕ) (g : Registers) (budget : ℕ) → refusal_of core g ≡ 0 → refusal_of (run_of core g budget).core (run_of core g budget).regs ≡ 0
run_fit core g budget e = (fit_refusal (run_of core g budget).core (run_of core g budget).regs).1 (run_keeps core g budget e).fit

pub run_length : (core : List ℕ) (g : Registers) (budget : ℕ) → refusal_of core g ≡ 0 → length (run_of core g budget).core ≡ length core
run_length core g budget e = (run_keeps core g budget e).size
