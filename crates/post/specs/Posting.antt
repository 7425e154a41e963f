-- Posting: a segment is inspected and, where it passed, run from the sheet's start.
use Rattle.std.specs.Prelude.{ℕ, ◌≡◌, ◌≢◌, List, eqb, leb}
use Rattle.word.specs.Choices.{if◌then◌otherwise◌}
use Rattle.machine.specs.declared.outcome.Registers.{Registers}
use Rattle.machine.specs.States.{State, no_registers}
use Rattle.machine.specs.Runs.{Run, run_from}
use Rattle.inspector.specs.Verdicts.{verdict_of, broken_number, broken_place}
use Rattle.demands.specs.Stays.{start_of, Reaches, Stays}
use Rattle.demands.specs.Leaves.{Leaves}
use Rattle.machine.specs.declared.outcome.Ran.{Ran}
use Rattle.machine.specs.Steps.{end_number}
use Rattle.post.specs.declared.PostError.{PostError}
use Rattle.post.specs.declared.PostError.TheVariants.{Broken, Budget}
use Rattle.std.specs.declared.result.Result.{Result}
use Rattle.std.specs.declared.result.Result.TheVariants.{Ok, Err}

-- The inspector's number and place; where they are 0, 5 for a budget over 1,000,000; the run's stop, its completed syllables and registers.
pub record Posting : Type 0 where
  pub number : ℕ
  pub place : ℕ
  pub stop : ℕ
  pub completed : ℕ
  pub core : List ℕ
  pub regs : Registers

-- Turned away: the core as it was, no syllable completed, all registers 0.
abbrev pub turned_away : ℕ → ℕ → List ℕ → Posting
turned_away number place core = record { number = number; place = place; stop = 0; completed = 0; core = core; regs = no_registers }

abbrev pub ran : Run → Posting
ran r = record { number = 0; place = 0; stop = r.stop; completed = r.completed; core = r.core; regs = r.regs }

unfoldable pub post_of : List ℕ → List ℕ → ℕ → Posting
post_of core sheet budget =
    if eqb (verdict_of core sheet).number 0 then (if leb budget 1000000 then ran (run_from budget (start_of core sheet)) otherwise turned_away 5 0 core)
    otherwise turned_away (verdict_of core sheet).number (verdict_of core sheet).place core

-- The inspector's number at its place, or "5: budget over 1,000,000" at place 0.
abbrev pub post_error_number : PostError → ℕ
post_error_number (Broken b) = broken_number b
post_error_number Budget = 5

abbrev pub post_error_place : PostError → ℕ
post_error_place (Broken b) = broken_place b
post_error_place Budget = 0

-- A posting's answer with the core that it left.
abbrev pub posted_of : Result Ran PostError → List ℕ → Posting
posted_of (Ok r) core = record { number = 0; place = 0; stop = end_number r.end; completed = r.completed; core = core; regs = r.regs }
posted_of (Err e) core = turned_away (post_error_number e) (post_error_place e) core

-- What every posting guarantees: turned away, the core is as it was; else the stop is 0, 15, 17, 20 or 21, words outside the sheet's are
-- as they were, and named cells and arrays are plain; and throughout, every state that the steps from the start reach stays inside the sheet.
pub record Guarantees (core sheet : List ℕ) (r : Posting) : Type 0 where
  pub away : r.number ≢ 0 → r.core ≡ core
  pub posted : r.number ≡ 0 → Leaves core sheet r.stop r.core
  pub throughout : r.number ≡ 0 → (n : ℕ) (u : State) → Reaches n (start_of core sheet) u → Stays core sheet u

-- The claim of `post`: the answer by the definition, and the guarantees of it.
pub record Posts (core sheet : List ℕ) (budget : ℕ) (r : Posting) : Type 0 where
  pub same : r ≡ post_of core sheet budget
  pub guarded : Guarantees core sheet r
