-- A word's bits by the paper's numbers, and what stands in a run of them.
use Rattle.std.specs.Prelude.{ℕ, ◌+◌, ◌-◌, ◌*◌, ◌/◌, ◌%◌, ◌^◌, Bool, true, false, ◌&&◌, eqb, leb}
use Rattle.word.specs.Choices.{if◌then◌otherwise◌}

-- "A word has 48 bits; bit 0 is the highest, bit 47 is worth 1." What bit n is worth.
abbrev pub worth : ℕ → ℕ
worth n = 2 ^ (47 - n)

-- How many values bits first to last can take.
abbrev pub span : ℕ → ℕ → ℕ
span first last = 2 ^ (last + 1 - first)

-- The number that stands in bits first to last of a word.
abbrev pub field : ℕ → ℕ → ℕ → ℕ
field w first last = w / worth last % span first last

-- The same for any first and last: 0 where they name no bits of a word.
abbrev pub bits_of : ℕ → ℕ → ℕ → ℕ
bits_of w first last = if leb first last && leb last 47 then field w first last otherwise 0

-- A number written as bits first to last of a word that is 0 elsewhere.
abbrev pub placed : ℕ → ℕ → ℕ → ℕ
placed first last x = x % span first last * worth last

-- A word with x in its bits first to last, all else as it was.
abbrev pub with_field : ℕ → ℕ → ℕ → ℕ → ℕ
with_field w first last x = w - field w first last * worth last + placed first last x

-- Bit n of a word is on.
abbrev pub bit : ℕ → ℕ → Bool
bit w n = eqb (field w n n) 1

-- On is 1, off is 0.
abbrev pub one_of : Bool → ℕ
one_of true = 1
one_of false = 0
