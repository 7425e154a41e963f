-- From bytes to words and registers, and back.
use Rattle.std.specs.Prelude.{ℕ, ◌≡◌, List, eqb, leb, ltb, length, Bool}
use Rattle.std.specs.Borrow.{MutBor}
use Rattle.std.specs.declared.result.Result.{Result}
use Rattle.std.specs.declared.result.Result.TheVariants.{Ok, Err}
use Rattle.word.specs.Choices.{if◌then◌otherwise◌}
use Rattle.machine.specs.declared.outcome.Registers.{Registers}
use Rattle.machine.specs.declared.outcome.Refusal.{Refusal}
use Rattle.machine.specs.declared.outcome.Refusal.TheVariants.{Registers as Register}
use Rattle.machine.specs.States.{set_s, set_f, set_cl, set_r}
use Rattle.tape.specs.declared.errors.ReadError.{ReadError}
use Rattle.tape.specs.Files.{words_of, words_in_of, write_file_of}
use Rattle.cabinet.specs.Rows.{row_of, set_of, marks_fit}

-- The words of a core's bytes, or why they are none.
abbrev pub words_by : Result (MutBor (List ℕ)) ReadError → Result (List ℕ) ReadError
words_by (Ok words) = Ok words.now
words_by (Err why) = Err why

abbrev pub words_as : Result ℕ ReadError → List ℕ → Result (List ℕ) ReadError
words_as (Ok n) core = Ok (words_of n core)
words_as (Err why) core = Err why

unfoldable pub words_read : List ℕ → Result (List ℕ) ReadError
words_read core = words_as (words_in_of (length core)) core

-- A number past the most that a type holds is out of every range, as that most is.
unfoldable pub narrow_of : ℕ → ℕ → ℕ
narrow_of most n = if leb n most then n otherwise most

-- A set of any numbers, as 16 bits hold S, F, C and R and 8 bits L.
unfoldable pub narrow_set : Registers → Registers
narrow_set g =
    set_s (set_f (set_cl (set_r g (narrow_of 65535 g.r)) (narrow_of 65535 g.c) (narrow_of 255 g.l)) (narrow_of 65535 g.f)) (narrow_of 65535 g.s)

-- A mark of a row, the set of a row, and that of bytes; or 3.
unfoldable pub mark_by : ℕ → Result Bool Refusal
mark_by w = if ltb w 2 then Ok (eqb w 1) otherwise Err Register

unfoldable pub set_by : List ℕ → Result Registers Refusal
set_by row = if marks_fit row then Ok (narrow_set (set_of row)) otherwise Err Register

unfoldable pub set_read : List ℕ → Result Registers Refusal
set_read regs = if eqb (length regs) 66 then set_by (words_of 11 regs) otherwise Err Register

-- What is left of words and a set: tape's writing of both.
pub record Back (words : List ℕ) (g : Registers) (core core' regs regs' : List ℕ) : Type 0 where
  pub words_back : core' ≡ write_file_of words core
  pub set_back : regs' ≡ write_file_of (row_of g) regs
