-- A file on its way into a core.
use Rattle.std.specs.Prelude.{ℕ, ◌/◌, ◌≡◌, List, ◌++◌, drop}
use Rattle.std.specs.declared.result.Result.{Result}
use Rattle.tape.specs.declared.errors.ReadError.{ReadError}
use Rattle.tape.specs.Files.{words_of, read_error_number}
use Rattle.trial.specs.Trials.{refused_of}
use Rattle.word.specs.Core.{number_by}

-- What loading a file into a core (`old`, then `new`) answers, and leaves where it is not refused.
pub record Loaded (bytes : List ℕ) (total : ℕ) (old new : List ℕ) (r : Result (Unit {0}) ReadError) : Type 0 where
  pub number : number_by read_error_number r ≡ refused_of bytes total
  pub core : refused_of bytes total ≡ 0 → new ≡ words_of (total / 6) bytes ++ drop (total / 6) old
