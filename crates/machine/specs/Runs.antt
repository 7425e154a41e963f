-- The run: steps until a stop or the budget is spent.
use Rattle.std.specs.Prelude.{ℕ, zero, suc, ◌+◌, List, eqb, leb}
use Rattle.machine.specs.declared.outcome.Registers.{Registers}
use Rattle.machine.specs.declared.outcome.Ran.{Ran}
use Rattle.machine.specs.declared.outcome.Refusal.{Refusal}
use Rattle.std.specs.declared.result.Result.{Result}
use Rattle.std.specs.declared.result.Result.TheVariants.{Ok, Err}
use Rattle.machine.specs.Outcomes.{number_of, if◌then◌otherwise◌}
use Rattle.machine.specs.States.{State, state_of}
use Rattle.machine.specs.Steps.{Ended, next, communicated, stopped, execute_of, refusal_of, end_number, refusal_number}

-- "A run answers the stop, the syllables completed (COM counts) and the state"
pub record Run : Type 0 where
  pub stop : ℕ
  pub completed : ℕ
  pub core : List ℕ
  pub regs : Registers

abbrev pub ends_at : ℕ → ℕ → State → Run
ends_at stop completed st = record { stop = stop; completed = completed; core = st.core; regs = st.regs }

-- The same run after n completed syllables more.
abbrev pub counted : ℕ → Run → Run
counted n r = record { stop = r.stop; completed = n + r.completed; core = r.core; regs = r.regs }

-- A syllable that goes on or communicates is completed; one that stops is not.
abbrev pub goes_on : Ended → (State → Run) → State → Run
goes_on (next u) rest st = counted 1 (rest u)
goes_on (communicated u) rest st = ends_at 17 1 u
goes_on (stopped n) rest st = ends_at (number_of n) 0 st

-- Steps from a state, as many as the budget has. "0 means .. budget spent."
unfoldable pub run_from : ℕ → State → Run
run_from zero st = ends_at 0 0 st
run_from (suc budget) st = goes_on (execute_of st) (run_from budget) st

-- "5 comes after 3": budget over 1,000,000.
unfoldable pub run_of : List ℕ → Registers → ℕ → Run
run_of core g budget =
    if eqb (refusal_of core g) 0 then
    (if leb budget 1000000 then run_from budget (state_of core g) otherwise ends_at 5 0 (state_of core g))
    otherwise ends_at (refusal_of core g) 0 (state_of core g)

-- A run with the core that it left.
abbrev pub run_says : Ran → List ℕ → Run
run_says r core = record { stop = end_number r.end; completed = r.completed; core = core; regs = r.regs }

-- A run's answer with the core that it left; a refusal leaves the registers g, which it was handed.
abbrev pub ran_of : Registers → Result Ran Refusal → List ℕ → Run
ran_of g (Ok r) core = run_says r core
ran_of g (Err n) core = record { stop = refusal_number n; completed = 0; core = core; regs = g }
