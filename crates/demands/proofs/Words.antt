-- The flags of the words that the operators make, and the fields of an indexed descriptor.
use Prim.Native.Nat.{ℕ, ◌+◌, ◌*◌, ◌/◌, ◌%◌, ◌^◌, ◌<◌}
use mathlib.Core.Path.{◌≡◌, ap}
use mathlib.Core.Bool.{Bool, true, false, false≢true}
use mathlib.Core.List.{List}
use native.Mathlib.Nat.{div-div-eq-div-mul}
use native.Mathlib.Omega.{arith}
use lib.Dec.{eqb, ltb}
use lib.IntN.{ℤ, nat_abs}
use Rattle.word.specs.Field.{field, bit, placed, with_field, one_of}
use Rattle.word.specs.Layout.{flag_of, presence_of, size_of, address_of}
use Rattle.word.specs.Numbers.{operand_of, negative, whole_of, OrNumber, the, given_back}
use Rattle.word.specs.Choices.{if◌then◌otherwise◌}
use Rattle.word.proofs.Makings.{one_lt, bit_is}
use Rattle.machine.specs.Arithmetics.{or_unwhole, taken_of, given_of, divided_of, reckon_of, relate_of, holds}
use Rattle.syllable.specs.declared.Arithmetic.{Arithmetic}
use Rattle.syllable.specs.declared.Arithmetic.TheVariants.{Add, Sub, Mul, Idv, Rdv}
use Rattle.syllable.specs.declared.Relation.{Relation}
use Rattle.inspector.specs.Scan.{Item, value}
use Rattle.demands.proofs.Safe.{Safe, goes, stops, safe_if}
use Rattle.demands.proofs.Holds.{Fits, is, plain, points}

-- A plain word has its flag off.
abbrev pub Off : ℕ → Type 0
Off w = flag_of w ≡ false

pub small_off : (k : ℕ) → k < 1024 → Off k
small_off k h = bit_is false k 0 (omega arith)

pub body_flag : (w x : ℕ) → flag_of (with_field w 1 47 x) ≡ flag_of w
body_flag w x = let e : field (with_field w 1 47 x) 0 0 ≡ field w 0 0 = omega arith in ap (λ (n : ℕ). eqb n 1) e

pub sign_flag : (w x : ℕ) → flag_of (with_field w 1 1 x) ≡ flag_of w
sign_flag w x =
    let high : with_field w 1 1 x / 2 ^ 46 ≡ w / 2 ^ 46 / 2 * 2 + x % 2 = omega arith in
    let e : field (with_field w 1 1 x) 0 0 ≡ field w 0 0 = omega (arith, high, div-div-eq-div-mul w (2 ^ 46) 2, div-div-eq-div-mul (with_field w 1 1 x) (2 ^ 46) 2) in
    ap (λ (n : ℕ). eqb n 1) e

pub mop_off : (w : ℕ) → Off (with_field w 0 0 0)
mop_off w = bit_is false (with_field w 0 0 0) 0 (omega arith)

pub one_off : (b : Bool) → Off (one_of b)
one_off b = bit_is false (one_of b) 0 (omega (arith, one_lt b))

-- "add the index to the address (also modulo 32,768), set size 0"
module _ (d n : ℕ) where
  pub indexed_flag : flag_of (with_field (with_field d 8 17 0) 33 47 n) ≡ flag_of d
  indexed_flag = let e : field (with_field (with_field d 8 17 0) 33 47 n) 0 0 ≡ field d 0 0 = omega arith in ap (λ (n : ℕ). eqb n 1) e

  pub indexed_presence : presence_of (with_field (with_field d 8 17 0) 33 47 n) ≡ presence_of d
  indexed_presence = let e : field (with_field (with_field d 8 17 0) 33 47 n) 2 2 ≡ field d 2 2 = omega arith in ap (λ (n : ℕ). eqb n 1) e

  pub indexed_second : bit (with_field (with_field d 8 17 0) 33 47 n) 1 ≡ bit d 1
  indexed_second = let e : field (with_field (with_field d 8 17 0) 33 47 n) 1 1 ≡ field d 1 1 = omega arith in ap (λ (n : ℕ). eqb n 1) e

  pub indexed_size : size_of (with_field (with_field d 8 17 0) 33 47 n) ≡ 0
  indexed_size = omega arith

  pub indexed_address : address_of (with_field (with_field d 8 17 0) 33 47 n) ≡ n % 32768
  indexed_address = omega arith

-- A literal or number is plain.
pub value_off : {core sheet : List ℕ} {x : Item} {w : ℕ} → value x ≡ true → Fits core sheet x w → Off w
value_off v (is h) = small_off _ h
value_off v (plain e) = e
value_off v (points q) = absurd (false≢true v)

-- ---- arithmetic stops only for 20 or 21

whole_safe : (w : OrNumber ℤ) → Safe (λ (z : ℤ). Unit {0}) (or_unwhole w)
whole_safe (the z) = goes tt
whole_safe (given_back n) = stops tt

pub taken_safe : (w : ℕ) → Safe (λ (z : ℤ). Unit {0}) (taken_of w)
unfolding taken_of
taken_safe w = whole_safe (whole_of w)

made_safe : (b : Bool) (w : ℕ) → Off w → Safe Off (or_unwhole (if b then the w otherwise given_back 20))
unfolding if◌then◌otherwise◌
made_safe true w h = goes h
made_safe false w h = stops tt

given_safe : (z : ℤ) → Safe Off (given_of z)
unfolding given_of operand_of
given_safe z =
    made_safe (ltb (nat_abs z) (2 ^ 39)) (placed 1 1 (one_of (negative z)) + placed 9 47 (nat_abs z))
    (bit_is false (placed 1 1 (one_of (negative z)) + placed 9 47 (nat_abs z)) 0 (omega (arith, one_lt (negative z))))

divided_safe : (x z : ℤ) → Safe Off (divided_of x z)
unfolding divided_of
divided_safe x z = safe_if (eqb (nat_abs x) 0) (λ _. stops tt) (λ _. given_safe z)

pub reckon_safe : (o : Arithmetic) (y x : ℤ) → Safe Off (reckon_of o y x)
unfolding reckon_of
reckon_safe Add y x = given_safe _
reckon_safe Sub y x = given_safe _
reckon_safe Mul y x = given_safe _
reckon_safe Idv y x = divided_safe x _
reckon_safe Rdv y x = divided_safe x _

pub relate_safe : (o : Relation) (y x : ℤ) → Safe Off (relate_of o y x)
unfolding relate_of
relate_safe o y x = goes (one_off (holds o y x))
