-- The operator numbers: those of the table of 4,096, and what each stands for.
use Rattle.std.specs.Prelude.{true, false, List, [], ◌∷◌, ℕ, zero, suc, ◌%◌, eqb}
use Rattle.syllable.specs.declared.Operator.{Operator}
use Rattle.syllable.specs.Codes.{operator_code, listed}
use Rattle.syllable.specs.Decoding.{Sort, literal, operand_call, descriptor_call, operator, sort_of}

-- the place of the code y in a list, counted from n, and 0 where it is not in it
abbrev pub index_in : ℕ → List Operator → ℕ → ℕ
index_in n [] y = 0
index_in n (o ∷ os) y = elim (eqb (operator_code o) y) [ true ↦ n | false ↦ index_in (suc n) os y ]

-- "In the program, all 4,096 syllables stand in one table of operator numbers.": 1 to 36 for the listed, 0 for the others,
-- and 37, 38, 39 for a literal, an operand call, a descriptor call
abbrev pub number_as : Sort → ℕ → ℕ
number_as literal y = 37
number_as operand_call y = 38
number_as descriptor_call y = 39
number_as operator y = index_in 1 listed y

unfoldable pub operator_number : ℕ → ℕ
operator_number y = number_as (sort_of (y % 4)) y

-- the numbers of n syllables from y on
abbrev pub numbers_from : ℕ → ℕ → List ℕ
numbers_from zero y = []
numbers_from (suc n) y = operator_number y ∷ numbers_from n (suc y)

unfoldable pub operator_numbers : List ℕ
operator_numbers = numbers_from 4096 0
