-- How a syllable of 12 bits is read.
use Rattle.std.specs.Prelude.{true, false, List, [], ◌∷◌, ℕ, zero, suc, ◌/◌, ◌%◌, eqb}
use Rattle.syllable.specs.declared.Operator.{Operator}
use Rattle.syllable.specs.declared.Operator.TheVariants.{NotBuilt}
use Rattle.syllable.specs.declared.Syllable.{Syllable}
use Rattle.syllable.specs.declared.Syllable.TheVariants.{Litc, Opdc, Desc, Operator as Operates}
use Rattle.syllable.specs.Codes.{operator_code, listed}

pub data Sort : Type 0 where
  literal operator operand_call descriptor_call : Sort

-- "A syllable is read as a literal, an operand call, a descriptor call or an operator, by its last two bits 00, 10, 11, 01":
-- of the number that those two bits make
abbrev pub sort_of : ℕ → Sort
sort_of zero = literal
sort_of (suc zero) = operator
sort_of (suc (suc zero)) = operand_call
sort_of (suc (suc (suc n))) = descriptor_call

-- the operator of a list whose code is y; "Others" are not built
abbrev pub operator_in : List Operator → ℕ → Operator
operator_in [] y = NotBuilt (y / 4)
operator_in (o ∷ os) y = elim (eqb (operator_code o) y) [ true ↦ o | false ↦ operator_in os y ]

-- "the first ten bits are its number k"; the cases of the enum are the paper's own four
abbrev pub decode_as : Sort → ℕ → Syllable
decode_as literal y = Litc (y / 4)
decode_as operand_call y = Opdc (y / 4)
decode_as descriptor_call y = Desc (y / 4)
decode_as operator y = Operates (operator_in listed y)

unfoldable pub decode_of : ℕ → Syllable
decode_of y = decode_as (sort_of (y % 4)) y
