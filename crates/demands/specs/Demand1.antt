-- Demand 1: "It takes everything it can be handed. Any core, register set, sheet and budget. Malformed ones are turned away by number.
-- A syllable that stops, save COM, leaves registers and core as they stood before it."
-- That every call takes every argument is in the calls' contracts: none has a `requires`. So are the refusals of hand-out, post, cabinet and
-- runone: see `handout/specs/HandOut.antt`, `post/specs/Posting.antt`, `cabinet/specs` and `trial/specs/Trials.antt`.
use Rattle.std.specs.Prelude.{ℕ, ◌<◌, ◌≡◌, ◌≢◌, true, false, List, length}
use Rattle.word.specs.Core.{length_fits, words_fit}
use Rattle.machine.specs.declared.outcome.Registers.{Registers}
use Rattle.machine.specs.States.{state_of}
use Rattle.machine.specs.Steps.{refusal_of, step_of}
use Rattle.machine.specs.Runs.{ends_at, run_of}
use Rattle.tape.specs.Files.{read_number_of, read_file_of, write_number_of, write_file_of}
use Rattle.inspector.specs.Records.{sheet_fits}
use Rattle.inspector.specs.Verdicts.{given, verdict_of}

pub record Demand1 : Type 0 where
  -- a step whose checks fail gives back the first that failed, and nothing changes
  pub step_refused : (core : List ℕ) (g : Registers) → refusal_of core g ≢ 0 → step_of core g ≡ record { number = refusal_of core g; core = core; regs = g }
  -- every number but 0 and 17 leaves registers and core as before
  pub step_kept : (core : List ℕ) (g : Registers) → (step_of core g).number ≢ 0 → (step_of core g).number ≢ 17 → ((step_of core g).core ≡ core) × ((step_of core g).regs ≡ g)
  -- what passes the checks passes them after a step too, the core as long as before
  pub step_fit : (core : List ℕ) (g : Registers) → refusal_of core g ≡ 0 → refusal_of (step_of core g).core (step_of core g).regs ≡ 0
  pub step_length : (core : List ℕ) (g : Registers) → refusal_of core g ≡ 0 → length (step_of core g).core ≡ length core
  -- a run whose checks fail, and one whose budget is over 1,000,000
  pub run_refused : (core : List ℕ) (g : Registers) (budget : ℕ) → refusal_of core g ≢ 0 → run_of core g budget ≡ ends_at (refusal_of core g) 0 (state_of core g)
  pub run_over : (core : List ℕ) (g : Registers) (budget : ℕ) → refusal_of core g ≡ 0 → 1000000 < budget → run_of core g budget ≡ ends_at 5 0 (state_of core g)
  -- a core file that is refused writes nothing, and so does a room that is
  pub read_kept : (bytes core : List ℕ) → read_number_of bytes (length core) ≢ 0 → read_file_of bytes core ≡ core
  pub write_kept : (core room : List ℕ) → write_number_of core (length room) ≢ 0 → write_file_of core room ≡ room
  -- the inspector: 1, then 2, of the core, whatever the sheet is; then 30 of a sheet that is no sheet by its length
  pub inspect_length : (core sheet : List ℕ) → length_fits core ≡ false → verdict_of core sheet ≡ given 1 0
  pub inspect_words : (core sheet : List ℕ) → length_fits core ≡ true → words_fit core ≡ false → verdict_of core sheet ≡ given 2 0
  pub inspect_sheet : (core sheet : List ℕ) → length_fits core ≡ true → words_fit core ≡ true → sheet_fits sheet ≡ false → verdict_of core sheet ≡ given 30 0
