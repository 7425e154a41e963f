-- The checks 1 and 2 of a core.
use Rattle.std.specs.Prelude.{ℕ, ◌^◌, Bool, true, ◌&&◌, List, [], ◌∷◌, ltb, leb, length}
use Rattle.std.specs.declared.result.Result.{Result}
use Rattle.std.specs.declared.result.Result.TheVariants.{Ok, Err}
use Rattle.word.specs.declared.cores.CoreError.{CoreError}
use Rattle.word.specs.declared.cores.CoreError.TheVariants.{Length, Word}
use Rattle.word.specs.Choices.{if◌then◌otherwise◌}

-- "1: core length 0 or over 32,768"
abbrev pub count_fits : ℕ → Bool
count_fits n = ltb 0 n && leb n 32768

unfoldable pub length_fits : List ℕ → Bool
length_fits core = count_fits (length core)

-- "2: a core word at or above 2^48"
unfoldable pub words_fit : List ℕ → Bool
words_fit [] = true
words_fit (w ∷ ws) = ltb w (2 ^ 48) && words_fit ws

-- "Numbers given back": 0, or the number of what refused.
abbrev pub number_by : {A E : Type 0} → (E → ℕ) → Result A E → ℕ
number_by number (Ok x) = 0
number_by number (Err e) = number e

-- The checks 1 and 2, in this order.
unfoldable pub checked_of : List ℕ → Result (Unit {0}) CoreError
checked_of core = if length_fits core then (if words_fit core then Ok tt otherwise Err Word) otherwise Err Length

-- "1: core length 0 or over 32,768"; "2: a core word at or above 2^48"
abbrev pub core_error_number : CoreError → ℕ
core_error_number Length = 1
core_error_number Word = 2
