-- "`17 4 1 0 31 0000000000000014`: stop, completed, C, L, S in decimal, then cell 9 in sixteen octal digits, one space between and a line feed after. A refused file prints its number alone on the line"
use Rattle.std.specs.Prelude.{ℕ, suc, ◌+◌, ◌%◌, ◌≡◌, List, [], ◌∷◌, ◌++◌, eqb, length, drop, set}
use Rattle.word.specs.Choices.{if◌then◌otherwise◌}
use Rattle.word.specs.Numbers.{OrNumber, the, given_back}
use Rattle.word.specs.Digits.{digits}
use Rattle.trial.specs.declared.trials.Sum.{Sum}

-- How many of the digits are leading zeros; the last digit is none.
unfoldable pub leading_of : List ℕ → ℕ
leading_of [] = 0
leading_of (d ∷ []) = 0
leading_of (d ∷ e ∷ ds) = if eqb d 0 then suc (leading_of (e ∷ ds)) otherwise 0

-- The character of a digit: 0 is 48.
abbrev pub glyph_of : ℕ → ℕ
glyph_of d = 48 + d % 10

-- The characters of digits, and one after them.
unfoldable pub spelled_of : List ℕ → ℕ → List ℕ
spelled_of [] after = after ∷ []
spelled_of (d ∷ ds) after = glyph_of d ∷ spelled_of ds after

-- A number in decimal, with no leading zero: it has 20 digits at most.
unfoldable pub decimal_of : ℕ → ℕ → List ℕ
decimal_of n after = spelled_of (drop (leading_of (digits 10 20 n)) (digits 10 20 n)) after

-- A word in sixteen octal digits.
unfoldable pub octal_of : ℕ → ℕ → List ℕ
octal_of w after = spelled_of (digits 8 16 w) after

-- A space, 32, follows each of the five numbers, and a line feed, 10, the word.
unfoldable pub sum_line_of : Sum → List ℕ
sum_line_of x = decimal_of x.stop 32 ++ (decimal_of x.completed 32 ++ (decimal_of x.c 32 ++ (decimal_of x.l 32 ++ (decimal_of x.s 32 ++ octal_of x.cell 10))))

unfoldable pub line_of : OrNumber Sum → List ℕ
line_of (given_back n) = decimal_of n 10
line_of (the x) = sum_line_of x

-- The room with a text's characters set one after another, from a place on.
unfoldable pub set_all : List ℕ → ℕ → List ℕ → List ℕ
set_all room at [] = room
set_all room at (x ∷ xs) = set_all (set room at x) (at + 1) xs

-- What writing a text to room (`old`, then `new`) from a place on leaves, and the next place.
pub record Written (old : List ℕ) (at : ℕ) (text new : List ℕ) (r : ℕ) : Type 0 where
  pub room : new ≡ set_all old at text
  pub next : r ≡ at + length text
