-- Worked examples of the paper's sentences, by computation.
use Prim.Native.Nat.{ℕ, ◌^◌}
use mathlib.Core.Path.{refl}
use mathlib.Core.List.{List, [], ◌∷◌}
use lib.ListN.{replicate}
use Rattle.word.specs.Core.{length_fits, words_fit}
use Rattle.word.specs.Digits.{digits, numeral}
use Rattle.word.specs.Choices.{if◌then◌otherwise◌}
use Rattle.tape.specs.Files.{words_of, bytes_of, core_number_of, read_number_of, read_file_of, write_number_of, write_file_of, FileRead, FileWritten}

-- "Input bytes 01 40 1C 04 12 09"
abbrev paper : List ℕ
paper = 1 ∷ 64 ∷ 28 ∷ 4 ∷ 18 ∷ 9 ∷ []

paper_read : FileRead paper (7 ∷ []) (1374859563529 ∷ []) 0
unfolding read_number_of core_number_of read_file_of words_of numeral if◌then◌otherwise◌
paper_read = record { number = refl; core = refl }

paper_written : FileWritten (1374859563529 ∷ []) (replicate 6 0) paper 0
unfolding write_number_of write_file_of bytes_of digits length_fits words_fit if◌then◌otherwise◌
paper_written = record { number = refl; room = refl }

-- "checks 4, then 1": five bytes have no words and are no multiple of 6.
read_short : FileRead (1 ∷ 64 ∷ 28 ∷ 4 ∷ 18 ∷ []) (7 ∷ []) (7 ∷ []) 4
unfolding read_number_of core_number_of read_file_of if◌then◌otherwise◌
read_short = record { number = refl; core = refl }

-- "into a core of its exact word count, else 1"
read_wide : FileRead paper (7 ∷ 7 ∷ []) (7 ∷ 7 ∷ []) 1
unfolding read_number_of core_number_of read_file_of if◌then◌otherwise◌
read_wide = record { number = refl; core = refl }

-- "else 4, after 1 and 2"
write_past : FileWritten (2 ^ 48 ∷ []) (5 ∷ []) (5 ∷ []) 2
unfolding write_number_of write_file_of length_fits words_fit if◌then◌otherwise◌
write_past = record { number = refl; room = refl }

write_room_over : FileWritten (9 ∷ []) (replicate 7 5) (replicate 7 5) 4
unfolding write_number_of write_file_of length_fits words_fit if◌then◌otherwise◌
write_room_over = record { number = refl; room = refl }
