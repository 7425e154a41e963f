-- Numbers given back as operands: a result that an i64 does not hold is past 39 bits.
use Prim.Native.Nat.{ℕ, ◌^◌, ◌≤◌, ◌<◌}
use mathlib.Core.Path.{◌≡◌, refl, ◌∙◌, ap}
use native.Mathlib.Omega.{arith}
use borrow.Author.Tests.{le-ltb, ne_eqb}
use lib.IntN.{ℤ, pos, negsuc, nat_abs}
use mir.Syntax.{w64}
use lib.Signed.{quot_z}
use mir.Val.{SFits, of_z}
use mir.ValLaws.{to_z-of_z}
use Rattle.std.specs.Int.{CanDivide}
use Rattle.std.specs.Option.{SomeIff}
use Rattle.std.specs.declared.option.Option.{Option}
use Rattle.std.specs.declared.option.Option.TheVariants.{Some, None}
use Rattle.std.proofs.lemmas.Int.{fits_signed_from_abs}
use Rattle.machine.specs.declared.outcome.Cause.TheVariants.{Unwhole}
use Rattle.machine.specs.Outcomes.{halt}
use Rattle.machine.specs.Arithmetics.{given_of, divided_of}
use Rattle.machine.specs.ForCode.Answers.{given_if}
use Rattle.machine.proofs.Calculus.{is_no}
use Rattle.word.specs.Numbers.{operand_of}
use Rattle.word.specs.Choices.{if◌then◌otherwise◌}

zero_bits : (x : ℤ) → nat_abs x ≡ 0 → of_z w64 x ≡ 0
zero_bits (pos n) e = e
zero_bits (negsuc n) e = omega (arith, e)

past_given : (z : ℤ) → 2 ^ 39 ≤ nat_abs z → halt Unwhole ≡ given_of z
unfolding given_of operand_of if◌then◌otherwise◌
past_given z h = rw (le-ltb (nat_abs z) (2 ^ 39) h)

pub given_is : (v : Option ℤ) (z : ℤ) → SomeIff v (SFits w64 z) z → given_if v ≡ given_of z
given_is (Some x) z h = ap given_of h.1
given_is None z h = past_given z (go (nat_abs z) (λ l. h (fits_signed_from_abs w64 z l)))
  where
    go : (n : ℕ) → (n < 2 ^ 63 → ⊥) → 2 ^ 39 ≤ n
    go n f = omega (arith, f)

quotient_is : (v : Option ℤ) (y x : ℤ) → 0 < of_z w64 x → SomeIff v (CanDivide w64 y x) (quot_z y x) → given_if v ≡ given_of (quot_z y x)
quotient_is (Some z) y x n h = ap given_of h.1
quotient_is None y x n h = given_is None (quot_z y x) (λ f. h (n, f))

pub quotient : (v : Option ℤ) (y x : ℤ) → (of_z w64 x ≡ 0 → ⊥) → SomeIff v (CanDivide w64 y x) (quot_z y x) → given_if v ≡ divided_of x (quot_z y x)
unfolding divided_of
quotient v y x n h = quotient_is v y x (omega (arith, n)) h ∙ is_no _ _ (ne_eqb _ _ (λ q. n (zero_bits x q))) refl

pub ruleset signed = (given_is, quotient, to_z-of_z)
