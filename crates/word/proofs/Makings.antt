-- What was made is read back: each field of a made word is the argument, cut to the field's bits.
use Prim.Native.Nat.{ℕ, ◌<◌}
use mathlib.Core.Path.{◌≡◌}
use mathlib.Core.Bool.{Bool, true, false}
use native.Mathlib.Omega.{arith}
use borrow.Author.Tests.{eq-eqb, ne_eqb}
use Rattle.word.specs.Field.{field, bit, one_of}
use Rattle.word.specs.Layout.{data_of, program_of, mscw_of, rcw_of}
use Rattle.word.specs.ForTheorems.Backs.{DataBack, ProgramBack, MscwBack, RcwBack}

pub one_lt : (b : Bool) → one_of b < 2
one_lt true = omega arith
one_lt false = omega arith

-- A bit that holds 1 for on and 0 for off is read so.
pub bit_is : (b : Bool) (w n : ℕ) → field w n n ≡ one_of b → bit w n ≡ b
bit_is true w n e = eq-eqb (field w n n) 1 e
bit_is false w n e = ne_eqb (field w n n) 1 (omega arith)

pub data_back : (p : Bool) (s a : ℕ) → DataBack p s a (data_of p s a)
data_back p s a =
    let p_low : one_of p < 2 = one_lt p in
    record {
      flag = bit_is true (data_of p s a) 0 (omega arith);
      second = bit_is false (data_of p s a) 1 (omega arith);
      presence = bit_is p (data_of p s a) 2 (omega arith);
      size = omega arith;
      address = omega arith;
    }

pub program_back : (p m g : Bool) (f a : ℕ) → ProgramBack p m g f a (program_of p m g f a)
program_back p m g f a =
    let p_low : one_of p < 2 = one_lt p in
    let m_low : one_of m < 2 = one_lt m in
    let g_low : one_of g < 2 = one_lt g in
    record {
      flag = bit_is true (program_of p m g f a) 0 (omega arith);
      second = bit_is true (program_of p m g f a) 1 (omega arith);
      third = bit_is true (program_of p m g f a) 3 (omega arith);
      presence = bit_is p (program_of p m g f a) 2 (omega arith);
      mode = bit_is m (program_of p m g f a) 4 (omega arith);
      argument = bit_is g (program_of p m g f a) 5 (omega arith);
      field_f = omega arith;
      address = omega arith;
    }

pub mscw_back : (r : ℕ) (m s : Bool) (f : ℕ) → MscwBack r m s f (mscw_of r m s f)
mscw_back r m s f =
    let m_low : one_of m < 2 = one_lt m in
    let s_low : one_of s < 2 = one_lt s in
    record {
      flag = bit_is true (mscw_of r m s f) 0 (omega arith);
      second = bit_is true (mscw_of r m s f) 1 (omega arith);
      third = bit_is false (mscw_of r m s f) 3 (omega arith);
      field_r = omega arith;
      msff = bit_is m (mscw_of r m s f) 16 (omega arith);
      salf = bit_is s (mscw_of r m s f) 17 (omega arith);
      field_f = omega arith;
    }

pub rcw_back : (d : Bool) (l f c : ℕ) → RcwBack d l f c (rcw_of d l f c)
rcw_back d l f c =
    let d_low : one_of d < 2 = one_lt d in
    record {
      flag = bit_is true (rcw_of d l f c) 0 (omega arith);
      second = bit_is true (rcw_of d l f c) 1 (omega arith);
      third = bit_is false (rcw_of d l f c) 3 (omega arith);
      call = bit_is d (rcw_of d l f c) 2 (omega arith);
      field_l = omega arith;
      field_f = omega arith;
      field_c = omega arith;
    }
