-- A run of n and then of m syllables is the run of n + m; a run of none makes the checks and fetches nothing; a run of one more is a step and the rest.
use Prim.Native.Nat.{ℕ, zero, suc, ◌+◌, ◌<◌, ◌≤◌}
use mathlib.Core.Path.{◌≡◌, refl, sym, ◌∙◌, ap, subst}
use mathlib.Core.Logic.{◌≢◌}
use mathlib.Core.Bool.{Bool, true, false}
use mathlib.Core.List.{List}
use native.Mathlib.Nat.{add_assoc, zero-add, suc-add}
use native.Mathlib.Omega.{arith}
use borrow.Author.Tests.{eq-eqb, le-leb}
use lib.Dec.{eqb}
use Rattle.machine.specs.declared.outcome.Cause.{Cause}
use Rattle.machine.specs.declared.outcome.Cause.TheVariants.{Address, Overflow, Presence, Flag, Index, Unbuilt, Unwhole, ZeroDivisor}
use Rattle.machine.specs.declared.outcome.Registers.{Registers}
use Rattle.machine.specs.Outcomes.{number_of}
use Rattle.machine.specs.States.{State, state_of}
use Rattle.word.specs.Choices.{if◌then◌otherwise◌}
use Rattle.machine.specs.Steps.{Ended, next, communicated, stopped, execute_of, refusal_of, ended_as, Stepped, step_of}
use Rattle.machine.specs.Runs.{Run, ends_at, counted, goes_on, run_from, run_of}
use Rattle.laws.specs.Runs.{goes_on_for}
use Rattle.laws.proofs.FitSteps.{step_fit}

-- No cause has the number 0.
halted : (c : Cause) (st : State) (m : ℕ) → ends_at (number_of c) 0 st ≡ goes_on_for (ends_at (number_of c) 0 st) m
unfolding if◌then◌otherwise◌
halted Address st m = refl
halted Overflow st m = refl
halted Presence st m = refl
halted Flag st m = refl
halted Index st m = refl
halted Unbuilt st m = refl
halted Unwhole st m = refl
halted ZeroDivisor st m = refl

-- One syllable more before both.
one_more : (b : Bool) (r : Run) (m : ℕ)
    → counted 1 (if b then counted r.completed (run_from m (state_of r.core r.regs)) otherwise r)
    ≡ (if b then counted (1 + r.completed) (run_from m (state_of r.core r.regs)) otherwise counted 1 r)
unfolding if◌then◌otherwise◌
one_more true r m = ap (λ (n : ℕ). record { stop = (run_from m (state_of r.core r.regs)).stop; completed = n; core = (run_from m (state_of r.core r.regs)).core; regs = (run_from m (state_of r.core r.regs)).regs }) (sym (add_assoc 1 r.completed (run_from m (state_of r.core r.regs)).completed))
one_more false r m = refl

step_add : (n m : ℕ) (st : State) (e : Ended) → ((u : State) → run_from (n + m) u ≡ goes_on_for (run_from n u) m)
    → goes_on e (run_from (n + m)) st ≡ goes_on_for (goes_on e (run_from n) st) m
unfolding if◌then◌otherwise◌
step_add n m st (next u) h = ap (counted 1) (h u) ∙ one_more (eqb (run_from n u).stop 0) (run_from n u) m
step_add n m st (communicated u) h = refl
step_add n m st (stopped c) h = halted c st m

pub run_add : (n m : ℕ) (st : State) → run_from (n + m) st ≡ goes_on_for (run_from n st) m
unfolding run_from if◌then◌otherwise◌
run_add zero m st = ap (λ (k : ℕ). run_from k st) (zero-add m) ∙ ap (λ (k : ℕ). record { stop = (run_from m st).stop; completed = k; core = (run_from m st).core; regs = (run_from m st).regs }) (sym (zero-add (run_from m st).completed))
run_add (suc n) m st = ap (λ (k : ℕ). run_from k st) (suc-add n m) ∙ step_add n m st (execute_of st) (run_add n m)

-- "budget 0": the checks are made, nothing is fetched, nothing completed.
pub run_none : (core : List ℕ) (g : Registers) → refusal_of core g ≡ 0 → run_of core g 0 ≡ ends_at 0 0 (state_of core g)
unfolding run_of run_from if◌then◌otherwise◌
run_none core g e = rw (eq-eqb (refusal_of core g) 0 e)

-- Where the checks pass, a run is the steps from its state, and a step is one of them.
pub passed_run : (core : List ℕ) (g : Registers) (budget : ℕ) → refusal_of core g ≡ 0 → budget ≤ 1000000 → run_of core g budget ≡ run_from budget (state_of core g)
unfolding run_of if◌then◌otherwise◌
passed_run core g budget e h = rw (eq-eqb (refusal_of core g) 0 e, le-leb budget 1000000 h)

passed_step : (core : List ℕ) (g : Registers) → refusal_of core g ≡ 0 → step_of core g ≡ ended_as (execute_of (state_of core g)) (state_of core g)
unfolding step_of if◌then◌otherwise◌
passed_step core g e = rw (eq-eqb (refusal_of core g) 0 e)

abbrev left : Stepped → State
left s = state_of s.core s.regs

-- No cause has the number 0 or 17.
no_other : (c : Cause) → (number_of c ≢ 0) × (number_of c ≢ 17)
no_other Address = (λ e. omega arith, λ e. omega arith)
no_other Overflow = (λ e. omega arith, λ e. omega arith)
no_other Presence = (λ e. omega arith, λ e. omega arith)
no_other Flag = (λ e. omega arith, λ e. omega arith)
no_other Index = (λ e. omega arith, λ e. omega arith)
no_other Unbuilt = (λ e. omega arith, λ e. omega arith)
no_other Unwhole = (λ e. omega arith, λ e. omega arith)
no_other ZeroDivisor = (λ e. omega arith, λ e. omega arith)

-- How a run of one more goes on, by the number that its first step gives.
module _ (rest : State → Run) (st : State) where
  goes_by : (e : Ended) → (ended_as e st).number ≡ 0 → goes_on e rest st ≡ counted 1 (rest (left (ended_as e st)))
  goes_by (next u) h = refl
  goes_by (communicated u) h = absurd (omega arith)
  goes_by (stopped c) h = absurd ((no_other c).0 h)

  com_by : (e : Ended) → (ended_as e st).number ≡ 17 → goes_on e rest st ≡ ends_at 17 1 (left (ended_as e st))
  com_by (next u) h = absurd (omega arith)
  com_by (communicated u) h = refl
  com_by (stopped c) h = absurd ((no_other c).1 h)

  stop_by : (e : Ended) → (ended_as e st).number ≢ 0 → (ended_as e st).number ≢ 17 → goes_on e rest st ≡ ends_at (ended_as e st).number 0 st
  stop_by (next u) p q = absurd (p refl)
  stop_by (communicated u) p q = absurd (q refl)
  stop_by (stopped c) p q = refl

-- A run of one more than the budget is its first step, and where that goes on, the run of the budget from what it left.
module _ (core : List ℕ) (g : Registers) (budget : ℕ) (e : refusal_of core g ≡ 0) (h : budget < 1000000) where
  first : run_of core g (suc budget) ≡ goes_on (execute_of (state_of core g)) (run_from budget) (state_of core g)
  unfolding run_from
  first = passed_run core g (suc budget) e (omega arith)

  pub run_on : (step_of core g).number ≡ 0 → run_of core g (suc budget) ≡ counted 1 (run_of (step_of core g).core (step_of core g).regs budget)
  run_on z =
      first
      ∙ subst (λ (s : Stepped). s.number ≡ 0 → goes_on (execute_of (state_of core g)) (run_from budget) (state_of core g) ≡ counted 1 (run_from budget (left s)))
      (sym (passed_step core g e)) (goes_by (run_from budget) (state_of core g) (execute_of (state_of core g))) z
      ∙ ap (counted 1) (sym (passed_run (step_of core g).core (step_of core g).regs budget (step_fit core g e) (omega arith)))

  pub run_com : (step_of core g).number ≡ 17 → run_of core g (suc budget) ≡ ends_at 17 1 (state_of (step_of core g).core (step_of core g).regs)
  run_com z =
      first
      ∙ subst (λ (s : Stepped). s.number ≡ 17 → goes_on (execute_of (state_of core g)) (run_from budget) (state_of core g) ≡ ends_at 17 1 (left s))
      (sym (passed_step core g e)) (com_by (run_from budget) (state_of core g) (execute_of (state_of core g))) z

  pub run_stop : (step_of core g).number ≢ 0 → (step_of core g).number ≢ 17 → run_of core g (suc budget) ≡ ends_at (step_of core g).number 0 (state_of core g)
  run_stop p q =
      first
      ∙ subst (λ (s : Stepped). s.number ≢ 0 → s.number ≢ 17 → goes_on (execute_of (state_of core g)) (run_from budget) (state_of core g) ≡ ends_at s.number 0 (state_of core g))
      (sym (passed_step core g e)) (stop_by (run_from budget) (state_of core g) (execute_of (state_of core g))) p q
