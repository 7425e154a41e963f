-- "The program `runone` reads a core file on standard input, fills up to 4,096 words with 0 .."
use Rattle.std.specs.Prelude.{ℕ, ◌-◌, ◌/◌, ◌≡◌, List, ◌++◌, eqb, leb, get_or, replicate}
use Rattle.machine.specs.declared.outcome.Registers.{Registers}
use Rattle.machine.specs.States.{no_registers, set_s, set_r}
use Rattle.machine.specs.Runs.{Run, run_of}
use Rattle.tape.specs.Files.{words_of, core_number_of, read_number_of, read_error_number}
use Rattle.trial.specs.declared.trials.Sum.{Sum}
use Rattle.std.specs.declared.result.Result.{Result}
use Rattle.std.specs.declared.result.Result.TheVariants.{Ok, Err}
use Rattle.tape.specs.declared.errors.ReadError.{ReadError}
use Rattle.word.specs.Choices.{if◌then◌otherwise◌}
use Rattle.word.specs.Numbers.{OrNumber, the, given_back}

-- Why an input is refused, or 0: by its whole length as a core file is, then "over 4,096 words is 1", then as its bytes are read.
unfoldable pub refused_of : List ℕ → ℕ → ℕ
refused_of bytes total =
    if eqb (core_number_of total) 0 then (if leb (total / 6) 4096 then read_number_of bytes (total / 6) otherwise 1)
    otherwise core_number_of total

-- The file's words, filled up to 4,096 with 0.
unfoldable pub filled_of : List ℕ → ℕ → List ℕ
filled_of bytes n = words_of n bytes ++ replicate (4096 - n) 0

-- "starts at C=0, R=1, S=31, the rest 0, empty or off"
abbrev pub start : Registers
start = set_r (set_s no_registers 31) 1

-- What is told of a run: the stop, the syllables completed, C, L, S and the word at 64 + 9.
abbrev pub summary_of : Run → Sum
summary_of r = record { stop = r.stop; completed = r.completed; c = r.regs.c; l = r.regs.l; s = r.regs.s; cell = get_or r.core 73 0 }

-- What is told, or the number of a refused file.
abbrev pub says_outcome : Result Sum ℕ → OrNumber Sum
says_outcome (Ok x) = the x
says_outcome (Err n) = given_back n

-- The same of an answer, whose refusal is the file's.
abbrev pub says_trial : Result Sum ReadError → OrNumber Sum
says_trial (Ok x) = the x
says_trial (Err e) = given_back (read_error_number e)

-- "A refused file prints its number"; any other runs with a "budget 1,000".
unfoldable pub trial_of : List ℕ → ℕ → OrNumber Sum
trial_of bytes total =
    if eqb (refused_of bytes total) 0 then the (summary_of (run_of (filled_of bytes (total / 6)) start 1000))
    otherwise given_back (refused_of bytes total)

-- What a run of a core (`old`, then `new`) from the start tells and leaves.
pub record Told (old : List ℕ) (budget : ℕ) (new : List ℕ) (r : Sum) : Type 0 where
  pub sum : r ≡ summary_of (run_of old start budget)
  pub core : new ≡ (run_of old start budget).core
