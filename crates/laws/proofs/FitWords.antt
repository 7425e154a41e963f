-- Every word that the machine makes is a word.
use Prim.Native.Nat.{ℕ, ◌+◌, ◌^◌}
use mathlib.Core.Bool.{Bool, true, false}
use native.Mathlib.Omega.{arith}
use lib.Dec.{eqb, ltb}
use lib.IntN.{ℤ, nat_abs}
use Rattle.machine.specs.Arithmetics.{or_unwhole, given_of, divided_of, reckon_of, relate_of, holds}
use Rattle.machine.proofs.Sizes.{Gives, goes, stops, gives_if}
use Rattle.laws.specs.Fit.{Word}
use Rattle.word.specs.Field.{placed, with_field, one_of}
use Rattle.word.specs.Layout.{data_of, mscw_of, rcw_of}
use Rattle.word.specs.Numbers.{operand_of, negative, the, given_back}
use Rattle.word.specs.Choices.{if◌then◌otherwise◌}
use Rattle.word.proofs.Makings.{one_lt}
use Rattle.syllable.specs.declared.Arithmetic.{Arithmetic}
use Rattle.syllable.specs.declared.Arithmetic.TheVariants.{Add, Sub, Mul, Idv, Rdv}
use Rattle.syllable.specs.declared.Relation.{Relation}

-- A changed word is one, whatever is put into the field.
module _ (w x : ℕ) (h : Word w) where
  pub flag_set : Word (with_field w 0 0 x)
  flag_set = omega arith

  pub sign_set : Word (with_field w 1 1 x)
  sign_set = omega arith

  pub body_set : Word (with_field w 1 47 x)
  body_set = omega arith

  pub size_set : Word (with_field w 8 17 x)
  size_set = omega arith

  pub address_set : Word (with_field w 33 47 x)
  address_set = omega arith

pub data_word : (p : Bool) (s a : ℕ) → Word (data_of p s a)
data_word p s a = omega (arith, one_lt p)

pub mscw_word : (r : ℕ) (m s : Bool) (f : ℕ) → Word (mscw_of r m s f)
mscw_word r m s f = omega (arith, one_lt m, one_lt s)

pub rcw_word : (d : Bool) (l f c : ℕ) → Word (rcw_of d l f c)
rcw_word d l f c = omega (arith, one_lt d)

pub one_word : (b : Bool) → Word (one_of b)
one_word b = omega (arith, one_lt b)

made_word : (b : Bool) (w : ℕ) → Word w → Gives Word (or_unwhole (if b then the w otherwise given_back 20))
unfolding if◌then◌otherwise◌
made_word true w h = goes h
made_word false w h = stops

given_word : (z : ℤ) → Gives Word (given_of z)
unfolding given_of operand_of
given_word z = made_word (ltb (nat_abs z) (2 ^ 39)) (placed 1 1 (one_of (negative z)) + placed 9 47 (nat_abs z)) (omega (arith, one_lt (negative z)))

divided_word : (x z : ℤ) → Gives Word (divided_of x z)
unfolding divided_of
divided_word x z = gives_if (eqb (nat_abs x) 0) (λ _. stops) (λ _. given_word z)

pub reckon_word : (o : Arithmetic) (y x : ℤ) → Gives Word (reckon_of o y x)
unfolding reckon_of
reckon_word Add y x = given_word _
reckon_word Sub y x = given_word _
reckon_word Mul y x = given_word _
reckon_word Idv y x = divided_word x _
reckon_word Rdv y x = divided_word x _

pub relate_word : (o : Relation) (y x : ℤ) → Gives Word (relate_of o y x)
unfolding relate_of
relate_word o y x = goes (one_word (holds o y x))
