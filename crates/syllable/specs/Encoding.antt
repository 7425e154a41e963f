-- The syllable that reads as a given one.
use Rattle.std.specs.Prelude.{ℕ, ◌+◌, ◌*◌, ◌%◌}
use Rattle.syllable.specs.declared.Syllable.{Syllable}
use Rattle.syllable.specs.declared.Syllable.TheVariants.{Litc, Opdc, Desc, Operator as Operates}
use Rattle.syllable.specs.Codes.{operator_code}

-- "by its last two bits 00, 10, 11, 01; the first ten bits are its number k": ten bits, so k is taken modulo 1,024
abbrev pub encode_of : Syllable → ℕ
encode_of (Litc k) = 4 * (k % 1024)
encode_of (Opdc k) = 4 * (k % 1024) + 2
encode_of (Desc k) = 4 * (k % 1024) + 3
encode_of (Operates o) = operator_code o
