-- Demand 2: "Each syllable does what the paper says: same words, addresses, registers, stops. Core files round-trip both ways."
-- That the calls give what the definitions of `machine` and `tape` say is in their contracts, by equations; here stands what the definitions themselves do.
use Rattle.std.specs.Prelude.{ℕ, suc, ◌+◌, ◌*◌, ◌<◌, ◌≡◌, ◌≢◌, true, List, length}
use Rattle.std.specs.declared.result.Result.{Result}
use Rattle.word.specs.Core.{length_fits, words_fit}
use Rattle.word.specs.Digits.{Below}
use Rattle.machine.specs.declared.outcome.Registers.{Registers}
use Rattle.machine.specs.declared.outcome.Answer.{Answer}
use Rattle.machine.specs.declared.outcome.Ran.{Ran}
use Rattle.machine.specs.declared.outcome.Refusal.{Refusal}
use Rattle.machine.specs.States.{State, state_of}
use Rattle.machine.specs.Steps.{refusal_of, step_of, answered}
use Rattle.machine.specs.Runs.{ends_at, counted, run_from, run_of, ran_of}
use Rattle.laws.specs.Trials.{trials, all_come}
use Rattle.laws.specs.Runs.{goes_on_for}
use Rattle.tape.specs.Files.{read_number_of, read_file_of, write_number_of, write_file_of}

pub record Demand2 : Type 0 where
  -- P1 to P10 of the paper: no machine that stops always, never moves or has one fixed answer
  pub sums : all_come trials ≡ true
  -- one answer for each argument: two that a call may give back, with the cores that they leave, are equal
  pub step_sole : (core : List ℕ) (g : Registers) {r r' : Result Answer Refusal} {core₁ core₂ : List ℕ} → answered g r core₁ ≡ step_of core g → answered g r' core₂ ≡ step_of core g → (r ≡ r') × (core₁ ≡ core₂)
  pub run_sole : (core : List ℕ) (g : Registers) (budget : ℕ) {r r' : Result Ran Refusal} {core₁ core₂ : List ℕ} → ran_of g r core₁ ≡ run_of core g budget → ran_of g r' core₂ ≡ run_of core g budget → (r ≡ r') × (core₁ ≡ core₂)
  -- a run is its steps, and the count is that of completed steps. Core and registers pass the checks; of a budget of 0, nothing is fetched
  pub run_none : (core : List ℕ) (g : Registers) → refusal_of core g ≡ 0 → run_of core g 0 ≡ ends_at 0 0 (state_of core g)
  -- of one more: a step that goes on, and then the run of the rest from what it left, with one more completed
  pub run_on : (core : List ℕ) (g : Registers) (budget : ℕ) → refusal_of core g ≡ 0 → budget < 1000000 → (step_of core g).number ≡ 0
      → run_of core g (suc budget) ≡ counted 1 (run_of (step_of core g).core (step_of core g).regs budget)
  -- or a step that communicates, which is completed, and no more; or a step that stops, which is not, and leaves all as before
  pub run_com : (core : List ℕ) (g : Registers) (budget : ℕ) → refusal_of core g ≡ 0 → budget < 1000000 → (step_of core g).number ≡ 17
      → run_of core g (suc budget) ≡ ends_at 17 1 (state_of (step_of core g).core (step_of core g).regs)
  pub run_stop : (core : List ℕ) (g : Registers) (budget : ℕ) → refusal_of core g ≡ 0 → budget < 1000000 → (step_of core g).number ≢ 0 → (step_of core g).number ≢ 17
      → run_of core g (suc budget) ≡ ends_at (step_of core g).number 0 (state_of core g)
  -- a run of n that spent its budget, and then of m, is the run of n + m
  pub run_add : (n m : ℕ) (st : State) → run_from (n + m) st ≡ goes_on_for (run_from n st) m
  -- an accepted file read and written is the same file
  pub file_same : (bytes core room : List ℕ) → Below 256 bytes → read_number_of bytes (length core) ≡ 0 → length room ≡ length bytes
      → (write_number_of (read_file_of bytes core) (length room) ≡ 0) × (write_file_of (read_file_of bytes core) room ≡ bytes)
  -- a core written and read is the same core
  pub core_same : (core room old : List ℕ) → length_fits core ≡ true → words_fit core ≡ true → length room ≡ 6 * length core → length old ≡ length core
      → (write_number_of core (length room) ≡ 0) × (read_number_of (write_file_of core room) (length old) ≡ 0) × (read_file_of (write_file_of core room) old ≡ core)
