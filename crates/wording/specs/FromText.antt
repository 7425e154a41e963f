-- Numbers from text.
use Rattle.std.specs.Prelude.{ℕ, ◌-◌, Bool, true, ◌&&◌, List, [], ◌∷◌, map, leb, ltb}
use Rattle.std.specs.declared.result.Result.{Result}
use Rattle.std.specs.declared.result.Result.TheVariants.{Ok, Err}
use Rattle.word.specs.Choices.{if◌then◌otherwise◌}
use Rattle.word.specs.Digits.{numeral}
use Rattle.wording.specs.declared.numbers.NumberError.{NumberError}
use Rattle.wording.specs.declared.numbers.NumberError.TheVariants.{Over, Wrong}

-- The digit of a character: 0 is 48.
abbrev pub digit_of : ℕ → ℕ
digit_of c = c - 48

abbrev pub is_digit : ℕ → ℕ → Bool
is_digit base c = leb 48 c && ltb (digit_of c) base

unfoldable pub are_digits : ℕ → List ℕ → Bool
are_digits base [] = true
are_digits base (c ∷ cs) = is_digit base c && are_digits base cs

abbrev pub at_most : ℕ → ℕ → Result ℕ NumberError
at_most most n = if leb n most then Ok n otherwise Err Over

-- A number at most `most`, in one digit or more.
unfoldable pub from_text_of : List ℕ → ℕ → ℕ → Result ℕ NumberError
from_text_of [] base most = Err Wrong
from_text_of (c ∷ cs) base most = if are_digits base (c ∷ cs) then at_most most (numeral base (map digit_of (c ∷ cs))) otherwise Err Wrong
