-- Operands as signed whole numbers, and back.
use Rattle.std.specs.Prelude.{ℕ, ◌+◌, ◌^◌, Bool, true, false, eqb, ltb, ℤ, pos, negsuc, neg_ℤ, nat_abs}
use Rattle.word.specs.Field.{placed, one_of}
use Rattle.word.specs.Layout.{sign_of, exponent_of, magnitude_of}
use Rattle.word.specs.Choices.{if◌then◌otherwise◌}
use Rattle.std.specs.declared.option.Option.{Option}
use Rattle.std.specs.declared.option.Option.TheVariants.{Some, None}

-- "Numbers given back": a value, or the number given back in its place.
pub data OrNumber (A : Type 0) : Type 0 where
  the : A → OrNumber A
  given_back : ℕ → OrNumber A

-- The number with this sign and magnitude; minus zero is zero.
abbrev pub signed : Bool → ℕ → ℤ
signed true m = neg_ℤ (pos m)
signed false m = pos m

-- "Its signed whole number lies between -(2^39-1) and 2^39-1." The flag plays no part.
unfoldable pub value_of : ℕ → ℤ
value_of w = signed (sign_of w) (magnitude_of w)

-- "bits 2-8 exponent (not 0 when any of them is on)"; "An exponent not 0: 20".
unfoldable pub whole_of : ℕ → OrNumber ℤ
whole_of w = if eqb (exponent_of w) 0 then the (value_of w) otherwise given_back 20

-- A number below 0.
abbrev pub negative : ℤ → Bool
negative (pos n) = false
negative (negsuc n) = true

-- "result flag off, zero gets sign off"; "result past 39 bits: 20".
unfoldable pub operand_of : ℤ → OrNumber ℕ
operand_of z =
    if ltb (nat_abs z) (2 ^ 39) then the (placed 1 1 (one_of (negative z)) + placed 9 47 (nat_abs z)) otherwise given_back 20

-- "20: number not whole 39-bit"
abbrev pub says_whole : Option ℤ → OrNumber ℤ
says_whole (Some z) = the z
says_whole None = given_back 20

abbrev pub says_made : Option ℕ → OrNumber ℕ
says_made (Some w) = the w
says_made None = given_back 20
