-- A number as its digits are read one by one.
use Rattle.std.specs.Prelude.{ℕ, ◌+◌, ◌*◌, List, [], ◌∷◌}
use Rattle.std.specs.declared.result.Result.{Result}
use Rattle.std.specs.declared.result.Result.TheVariants.{Err}
use Rattle.word.specs.Choices.{if◌then◌otherwise◌}
use Rattle.wording.specs.declared.numbers.NumberError.{NumberError}
use Rattle.wording.specs.declared.numbers.NumberError.TheVariants.{Wrong}
use Rattle.wording.specs.FromText.{digit_of, are_digits, at_most}

-- The number n with the text's digits after it.
unfoldable pub followed : ℕ → ℕ → List ℕ → ℕ
followed base n [] = n
followed base n (c ∷ cs) = followed base (n * base + digit_of c) cs

-- What n and the digits after it are read as.
unfoldable pub read_from : ℕ → ℕ → ℕ → List ℕ → Result ℕ NumberError
read_from base most n cs = if are_digits base cs then at_most most (followed base n cs) otherwise Err Wrong
