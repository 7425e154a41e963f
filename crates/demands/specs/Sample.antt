-- A segment that uses an array cell and a number cell: a word of the array is loaded, and stored through a place; a branch goes back.
use Rattle.std.specs.Prelude.{ℕ, ◌+◌, ◌*◌, true, List, [], ◌∷◌, set, replicate}
use Rattle.word.specs.Layout.{data_of}
use Rattle.syllable.specs.declared.Branch.TheVariants.{Bbc}
use Rattle.syllable.specs.declared.Operator.TheVariants.{Branch, Nop, Std, Com}
use Rattle.syllable.specs.declared.Syllable.{Syllable}
use Rattle.syllable.specs.declared.Syllable.TheVariants.{Litc, Opdc, Desc, Operator as Operates}
use Rattle.syllable.specs.Encoding.{encode_of}

abbrev pub four : Syllable → Syllable → Syllable → Syllable → ℕ
four x y z w = 4096 * (4096 * (4096 * encode_of x + encode_of y) + encode_of z) + encode_of w

-- Word 2 of the array goes to word 3, again while bit 47 of cell 9 is off; then word 3 is communicated.
-- 128 words, the code at 0; cell 10 of the table at 64 names the array of five words at 40; all else is 0.
abbrev pub sample_core : List ℕ
sample_core =
    set (
    four (Litc 2) (Opdc 10) (Litc 3) (Desc 10) ∷
    four (Operates Std) (Opdc 9) (Litc 8) (Operates (Branch Bbc)) ∷
    four (Operates Nop) (Litc 3) (Opdc 10) (Operates Com) ∷
    replicate 125 0
    ) 74 (data_of true 5 40)

-- Three code words at 0; S = 31 and room d; R = 1 and a table of 64 cells; number cell 9; array cell 10.
abbrev pub sample_sheet : ℕ → List ℕ
sample_sheet d =
    1 ∷ 0 ∷ 0 ∷ 0 ∷ 0 ∷ 3 ∷
    2 ∷ 0 ∷ 0 ∷ 31 ∷ 0 ∷ d ∷
    5 ∷ 0 ∷ 0 ∷ 1 ∷ 0 ∷ 64 ∷
    3 ∷ 0 ∷ 0 ∷ 9 ∷ 0 ∷ 1 ∷
    4 ∷ 0 ∷ 0 ∷ 10 ∷ 0 ∷ 1 ∷
    []
