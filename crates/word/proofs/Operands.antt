-- Laws of whole numbers: what the tests of sign, exponent and size say of an operand's number.
use Prim.Native.Nat.{ℕ, suc, ◌+◌, ◌^◌, ◌<◌}
use mathlib.Core.Path.{◌≡◌, refl, sym}
use mathlib.Core.Bool.{Bool, true, false}
use native.Mathlib.Omega.{arith}
use borrow.Author.Tests.{ltb-true, eq-eqb}
use lib.Dec.{ltb}
use lib.IntN.{ℤ, pos, negsuc, nat_abs}
use Rattle.word.specs.Field.{field, placed, one_of}
use Rattle.word.specs.Layout.{sign_of, exponent_of, magnitude_of}
use Rattle.word.specs.Numbers.{signed, value_of, whole_of, operand_of, negative, the, given_back}
use Rattle.word.specs.Choices.{if◌then◌otherwise◌}
use Rattle.word.proofs.Makings.{bit_is}
use Rattle.word.proofs.Signed.{abs_neg}

-- ---- an operand's number

magnitude_small : (w : ℕ) → magnitude_of w < 549755813888
magnitude_small w = omega arith

-- "Its signed whole number lies between -(2^39-1) and 2^39-1."
pub value_small : (w : ℕ) → nat_abs (value_of w) < 2 ^ 39
unfolding value_of
value_small w = go (sign_of w)
  where
    go : (s : Bool) → nat_abs (signed s (magnitude_of w)) < 2 ^ 39
    go true = rw (abs_neg (pos (magnitude_of w))) (magnitude_small w)
    go false = magnitude_small w

-- ---- there and back: a number that fits is the number of its operand

tops : (n w : ℕ) → n < 2 ^ 39 → w ≡ n → (exponent_of w ≡ 0) × (field w 1 1 ≡ 0) × (magnitude_of w ≡ n)
tops n w h e = (omega arith, omega arith, omega arith)

signed_tops : (n w : ℕ) → n < 2 ^ 39 → w ≡ 2 ^ 46 + n → (exponent_of w ≡ 0) × (field w 1 1 ≡ 1) × (magnitude_of w ≡ n)
signed_tops n w h e = (omega arith, omega arith, omega arith)

back_by : (z : ℤ) (w : ℕ) → nat_abs z < 2 ^ 39 → w ≡ placed 1 1 (one_of (negative z)) + placed 9 47 (nat_abs z) → whole_of w ≡ the z
unfolding whole_of if◌then◌otherwise◌ value_of
back_by (pos n) w h e =
    let v : w ≡ n = omega arith in
    rw (eq-eqb (exponent_of w) 0 (tops n w h v).0, bit_is false w 1 (tops n w h v).1, (tops n w h v).2)
back_by (negsuc n) w h e =
    let v : w ≡ 2 ^ 46 + suc n = omega arith in
    rw (eq-eqb (exponent_of w) 0 (signed_tops (suc n) w h v).0, bit_is true w 1 (signed_tops (suc n) w h v).1, (signed_tops (suc n) w h v).2)

pub operand_back : (z : ℤ) (w : ℕ) → operand_of z ≡ the w → whole_of w ≡ the z
unfolding operand_of if◌then◌otherwise◌
operand_back z w e = go (ltb (nat_abs z) (2 ^ 39)) refl e
  where
    go : (b : Bool) → ltb (nat_abs z) (2 ^ 39) ≡ b → (if b then the (placed 1 1 (one_of (negative z)) + placed 9 47 (nat_abs z)) otherwise given_back 20) ≡ the w → whole_of w ≡ the z
    go true t f = back_by z w (ltb-true (nat_abs z) (2 ^ 39) t) (let q : placed 1 1 (one_of (negative z)) + placed 9 47 (nat_abs z) ≡ w = cc in sym q)
    go false t f = absurd (let q : ◌≡◌ {A = ℕ} 0 1 = cc in omega arith)
