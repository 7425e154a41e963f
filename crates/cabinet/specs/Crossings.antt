-- What each plug answers, and the bytes that it leaves.
use Rattle.std.specs.Prelude.{ℕ, ◌/◌, ◌≡◌, Bool, ◌&&◌, List, eqb, ltb, length}
use Rattle.word.specs.Choices.{if◌then◌otherwise◌}
use Rattle.machine.specs.Steps.{Stepped, step_of}
use Rattle.machine.specs.Runs.{Run, run_of}
use Rattle.tape.specs.Files.{words_of, bytes_of}
use Rattle.cabinet.specs.Lengths.{load_number_of}
use Rattle.cabinet.specs.Rows.{row_of, set_of, row_number_of}

-- ---- load

-- What copying a file to a core (`old`, then `new`) leaves, and the number that it answers. "a refusal writes nothing"
pub record LoadedBytes (file old new : List ℕ) (r : ℕ) : Type 0 where
  pub number : r ≡ load_number_of (length file) (length old)
  pub core : new ≡ (if eqb (load_number_of (length file) (length old)) 0 then file otherwise old)

-- ---- step

-- A number, the bytes of the core and those of the register set.
pub record StepBytes : Type 0 where
  pub number : ℕ
  pub core : List ℕ
  pub regs : List ℕ

abbrev pub step_bytes : ℕ → List ℕ → List ℕ → StepBytes
step_bytes n core regs = record { number = n; core = core; regs = regs }

-- The numbers 1 to 5; the next number of the paper is 11.
abbrev pub refuses : ℕ → Bool
refuses n = ltb 0 n && ltb n 11

-- All bytes are left as they were by a number that refuses, and say what the machine left by any other.
unfoldable pub step_back_of : Stepped → List ℕ → List ℕ → StepBytes
step_back_of s core regs =
    if refuses s.number then step_bytes s.number core regs otherwise step_bytes s.number (bytes_of s.core) (bytes_of (row_of s.regs))

unfoldable pub step_bytes_of : List ℕ → List ℕ → StepBytes
step_bytes_of core regs =
    if eqb (row_number_of (length core) regs) 0 then step_back_of (step_of (words_of (length core / 6) core) (set_of (words_of 11 regs))) core regs
    otherwise step_bytes (row_number_of (length core) regs) core regs

-- ---- run

-- The same, with the count of completed syllables.
pub record RunBytes : Type 0 where
  pub left : StepBytes
  pub completed : ℕ

abbrev pub run_bytes : ℕ → List ℕ → List ℕ → ℕ → RunBytes
run_bytes n core regs completed = record { left = step_bytes n core regs; completed = completed }

unfoldable pub run_back_of : Run → List ℕ → List ℕ → RunBytes
run_back_of r core regs =
    record { left = step_back_of (record { number = r.stop; core = r.core; regs = r.regs }) core regs; completed = r.completed }

-- A refusal completes none.
unfoldable pub run_bytes_of : List ℕ → List ℕ → ℕ → RunBytes
run_bytes_of core regs budget =
    if eqb (row_number_of (length core) regs) 0 then run_back_of (run_of (words_of (length core / 6) core) (set_of (words_of 11 regs)) budget) core regs
    otherwise run_bytes (row_number_of (length core) regs) core regs 0
