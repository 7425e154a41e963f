-- "Core file: six-byte records, highest byte first, no header."
use Rattle.std.specs.Prelude.{ℕ, zero, suc, ◌*◌, ◌/◌, ◌%◌, ◌≡◌, List, [], ◌∷◌, ◌++◌, eqb, length, take, drop}
use Rattle.word.specs.Choices.{if◌then◌otherwise◌}
use Rattle.std.specs.declared.result.Result.{Result}
use Rattle.std.specs.declared.result.Result.TheVariants.{Ok, Err}
use Rattle.word.specs.Core.{count_fits, length_fits, words_fit, core_error_number}
use Rattle.tape.specs.declared.errors.ReadError.{ReadError}
use Rattle.tape.specs.declared.errors.ReadError.TheVariants.{Records, Length}
use Rattle.tape.specs.declared.errors.WriteError.{WriteError}
use Rattle.tape.specs.declared.errors.WriteError.TheVariants.{Core, Room}
use Rattle.word.specs.Digits.{digits, numeral}

-- The first n words of a file: six bytes each, as digits to the base 256.
unfoldable pub words_of : ℕ → List ℕ → List ℕ
words_of zero bytes = []
words_of (suc n) bytes = numeral 256 (take 6 bytes) ∷ words_of n (drop 6 bytes)

-- The file of a core.
unfoldable pub bytes_of : List ℕ → List ℕ
bytes_of [] = []
bytes_of (w ∷ ws) = digits 256 6 w ++ bytes_of ws

-- Of a file's length in bytes: 4, "core file length not a multiple of 6"; 1, "core length 0 or over 32,768" words; else 0.
unfoldable pub core_number_of : ℕ → ℕ
core_number_of n = if eqb (n % 6) 0 then (if count_fits (n / 6) then 0 otherwise 1) otherwise 4

-- How many words a file of n bytes has, or why it is no core file: "4, then 1".
unfoldable pub words_in_of : ℕ → Result ℕ ReadError
words_in_of n = if eqb (n % 6) 0 then (if count_fits (n / 6) then Ok (n / 6) otherwise Err Length) otherwise Err Records

-- "4: core file length not a multiple of 6"; "1: core length 0 or over 32,768"
abbrev pub read_error_number : ReadError → ℕ
read_error_number Records = 4
read_error_number Length = 1

-- "Writing needs room of exactly six bytes a word, else 4, after 1 and 2."
abbrev pub write_error_number : WriteError → ℕ
write_error_number (Core e) = core_error_number e
write_error_number Room = 4

-- "Reading a core file checks 4, then 1, into a core of its exact word count, else 1"
unfoldable pub read_number_of : List ℕ → ℕ → ℕ
read_number_of bytes count =
    if eqb (core_number_of (length bytes)) 0 then (if eqb count (length bytes / 6) then 0 otherwise 1)
    otherwise core_number_of (length bytes)

-- "a refusal writes nothing"
unfoldable pub read_file_of : List ℕ → List ℕ → List ℕ
read_file_of bytes core = if eqb (read_number_of bytes (length core)) 0 then words_of (length core) bytes otherwise core

-- "Writing needs room of exactly six bytes a word, else 4, after 1 and 2."
unfoldable pub write_number_of : List ℕ → ℕ → ℕ
write_number_of core room =
    if length_fits core then (if words_fit core then (if eqb room (6 * length core) then 0 otherwise 4) otherwise 2) otherwise 1

unfoldable pub write_file_of : List ℕ → List ℕ → List ℕ
write_file_of core room = if eqb (write_number_of core (length room)) 0 then bytes_of core otherwise room

-- What reading a file into a core (`old`, then `new`) leaves, and the number that it answers.
pub record FileRead (bytes old new : List ℕ) (r : ℕ) : Type 0 where
  pub number : r ≡ read_number_of bytes (length old)
  pub core : new ≡ read_file_of bytes old

-- What writing a core to room (`old`, then `new`) leaves, and the number that it answers.
pub record FileWritten (core old new : List ℕ) (r : ℕ) : Type 0 where
  pub number : r ≡ write_number_of core (length old)
  pub room : new ≡ write_file_of core old
