-- Arithmetic and relations: "Two": both full, result in B, A empty.
use Rattle.std.specs.Prelude.{ℕ, Bool, not, ◌&&◌, eqb, ℤ, nat_abs, ◌+ℤ◌, ◌-ℤ◌, ◌*ℤ◌}
use Rattle.std.specs.Int.Signed.{lt_z, le_z, quot_z, rem_z}
use Rattle.machine.specs.declared.outcome.Cause.TheVariants.{Unwhole, ZeroDivisor}
use Rattle.machine.specs.Outcomes.{Res, on, halt, ◌>>=◌, if◌then◌otherwise◌}
use Rattle.machine.specs.States.{State, empty_a, fill_b}
use Rattle.machine.specs.Stack.{both_full_of}
use Rattle.word.specs.Field.{one_of}
use Rattle.word.specs.Numbers.{whole_of, operand_of, OrNumber, the, given_back}
use Rattle.syllable.specs.declared.Arithmetic.{Arithmetic}
use Rattle.syllable.specs.declared.Arithmetic.TheVariants.{Add, Sub, Mul, Idv, Rdv}
use Rattle.syllable.specs.declared.Relation.{Relation}
use Rattle.syllable.specs.declared.Relation.TheVariants.{Gtr, Geq, Eql, Leq, Lss, Neq}

-- The one number that these two give back is 20.
abbrev pub or_unwhole : {A : Type 0} → OrNumber A → Res A
or_unwhole (the x) = on x
or_unwhole (given_back n) = halt Unwhole

-- "An exponent not 0: 20"
unfoldable pub taken_of : ℕ → Res ℤ
taken_of w = or_unwhole (whole_of w)

-- "result past 39 bits: 20"
unfoldable pub given_of : ℤ → Res ℕ
given_of z = or_unwhole (operand_of z)

-- "A zero in IDV, RDV: 21"
unfoldable pub divided_of : ℤ → ℤ → Res ℕ
divided_of x z = if eqb (nat_abs x) 0 then halt ZeroDivisor otherwise given_of z

-- "ADD, SUB (B-A), MUL, IDV (toward zero), RDV (sign of B)": of B's number y and A's number x.
unfoldable pub reckon_of : Arithmetic → ℤ → ℤ → Res ℕ
reckon_of Add y x = given_of (y +ℤ x)
reckon_of Sub y x = given_of (y -ℤ x)
reckon_of Mul y x = given_of (y *ℤ x)
reckon_of Idv y x = divided_of x (quot_z y x)
reckon_of Rdv y x = divided_of x (rem_z y x)

-- "GTR, GEQ, EQL, LEQ, LSS, NEQ. Two, B against A, 1 or 0"
abbrev pub holds : Relation → ℤ → ℤ → Bool
holds Gtr y x = lt_z x y
holds Geq y x = le_z x y
holds Eql y x = le_z y x && le_z x y
holds Leq y x = le_z y x
holds Lss y x = lt_z y x
holds Neq y x = not (le_z y x && le_z x y)

unfoldable pub relate_of : Relation → ℤ → ℤ → Res ℕ
relate_of o y x = on (one_of (holds o y x))

-- "Two": "Flags ignored, result flag off".
unfoldable pub two_of : (ℤ → ℤ → Res ℕ) → State → Res State
two_of f st = do
  u ← both_full_of st
  x ← taken_of u.regs.a
  y ← taken_of u.regs.b
  w ← f y x
  on (empty_a (fill_b u w))
