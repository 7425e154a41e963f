-- The digits of a number to any base, and back.
use Rattle.std.specs.Prelude.{ℕ, zero, suc, ◌+◌, ◌*◌, ◌/◌, ◌%◌, ◌^◌, ◌<◌, Bool, ◌&&◌, List, [], ◌∷◌, leb, ltb, length, get_or}
use Rattle.std.proofs.Math.Option.{Option, some, none}
use Rattle.word.specs.Choices.{if◌then◌otherwise◌}
use Rattle.std.specs.declared.option.Option.{Option as Found}
use Rattle.std.specs.declared.option.Option.TheVariants.{Some, None}

-- The last `count` digits of a number, the highest first: digit k from the end is worth base ^ k.
unfoldable pub digits : ℕ → ℕ → ℕ → List ℕ
digits base zero n = []
digits base (suc k) n = n / base ^ k % base ∷ digits base k n

-- The number that digits say, the highest first.
unfoldable pub numeral : ℕ → List ℕ → ℕ
numeral base [] = 0
numeral base (d ∷ ds) = d * base ^ length ds + numeral base ds

-- Every digit is below the base.
abbrev pub Below : ℕ → List ℕ → Type 0
Below base ds = (i : ℕ) → get_or ds i 0 < base

-- A base whose digits are bytes: 2 to 256.
unfoldable pub byte_base : ℕ → Bool
byte_base base = leb 2 base && leb base 256

-- Digits are written over the old ones, or all is left where the base is not 2 to 256.
unfoldable pub to_digits_of : ℕ → ℕ → List ℕ → List ℕ
to_digits_of base n old = if byte_base base then digits base (length old) n otherwise old

-- A word, where it is below 2^48, or none.
abbrev pub if_word : ℕ → Option ℕ
if_word n = if ltb n (2 ^ 48) then some n otherwise none

-- Digits are read as a word, or none where the base is not 2 to 256.
unfoldable pub from_digits_of : ℕ → List ℕ → Option ℕ
from_digits_of base ds = if byte_base base then if_word (numeral base ds) otherwise none

-- A word, or none: the paper has no number for digits that say no word.
abbrev pub says_reading : Found ℕ → Option ℕ
says_reading (Some n) = some n
says_reading None = none
