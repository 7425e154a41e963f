-- A register set crosses as a row of eleven words, each of six bytes: A, a_full, B, b_full, S, F, C, R, L, SALF, MSFF.
use Rattle.std.specs.Prelude.{ℕ, Bool, ◌&&◌, List, [], ◌∷◌, eqb, ltb, length, get_or}
use Rattle.machine.specs.declared.outcome.Registers.{Registers}
use Rattle.word.specs.Choices.{if◌then◌otherwise◌}
use Rattle.word.specs.Field.{one_of}
use Rattle.tape.specs.Files.{words_of}
use Rattle.cabinet.specs.Lengths.{core_number_of}

unfoldable pub row_of : Registers → List ℕ
row_of g =
    g.a ∷ one_of g.afull ∷ g.b ∷ one_of g.bfull ∷ g.s ∷ g.f ∷ g.c ∷ g.r ∷ g.l ∷ one_of g.salf ∷ one_of g.msff ∷ []

unfoldable pub set_of : List ℕ → Registers
set_of row =
    record { a = get_or row 0 0; afull = eqb (get_or row 1 0) 1; b = get_or row 2 0; bfull = eqb (get_or row 3 0) 1; s = get_or row 4 0; f = get_or row 5 0; c = get_or row 6 0; r = get_or row 7 0; l = get_or row 8 0; salf = eqb (get_or row 9 0) 1; msff = eqb (get_or row 10 0) 1 }

-- 3, "a register .. out of range": so is a mark that is neither 0 nor 1. The ranges are the machine's own check.
unfoldable pub marks_fit : List ℕ → Bool
marks_fit row = ltb (get_or row 1 0) 2 && ltb (get_or row 3 0) 2 && ltb (get_or row 9 0) 2 && ltb (get_or row 10 0) 2

-- 4 and 1 of a core of n bytes, then 3 of a set that is not 66 bytes.
unfoldable pub lengths_number_of : ℕ → ℕ → ℕ
lengths_number_of n row = if eqb (core_number_of n) 0 then (if eqb row 66 then 0 otherwise 3) otherwise core_number_of n

-- These, then 3 of its marks.
unfoldable pub row_number_of : ℕ → List ℕ → ℕ
row_number_of n regs =
    if eqb (lengths_number_of n (length regs)) 0 then (if marks_fit (words_of 11 regs) then 0 otherwise 3) otherwise lengths_number_of n (length regs)
