-- The array call: where the words stand that an array cell names.
use Rattle.std.specs.Prelude.{ℕ, ◌/◌, List, eqb, length}
use Rattle.word.specs.Choices.{if◌then◌otherwise◌}
use Rattle.handout.specs.HandOut.{Handed, handed_of}
use Rattle.tape.specs.Files.{words_of}
use Rattle.cabinet.specs.Lengths.{core_number_of}

-- A number, the first word of a stretch and how many words it has.
abbrev pub handed : ℕ → ℕ → ℕ → Handed
handed n start count = record { number = n; start = start; count = count }

-- 4 and 1 of the bytes, "each with an empty stretch"; then, of a core's words, the hand-out's own answers.
unfoldable pub handed_bytes_of : List ℕ → ℕ → ℕ → Handed
handed_bytes_of core r cell =
    if eqb (core_number_of (length core)) 0 then handed_of (words_of (length core / 6) core) r cell
    otherwise handed (core_number_of (length core)) 0 0
