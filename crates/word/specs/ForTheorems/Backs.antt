-- What was made is read back: each field of a made word is the argument, cut to the field's bits.
use Rattle.std.specs.Prelude.{ℕ, ◌%◌, ◌≡◌, Bool, true, false}
use Rattle.word.specs.Field.{bit}
use Rattle.word.specs.Layout.{flag_of, presence_of, size_of, address_of, mode_of, argument_of, f_field_of, mscw_r_of, mscw_msff_of, mscw_salf_of, rcw_call_of, rcw_l_of, rcw_c_of}

pub record DataBack (p : Bool) (s a w : ℕ) : Type 0 where
  pub flag : flag_of w ≡ true
  pub second : bit w 1 ≡ false
  pub presence : presence_of w ≡ p
  pub size : size_of w ≡ s % 1024
  pub address : address_of w ≡ a % 32768

pub record ProgramBack (p m g : Bool) (f a w : ℕ) : Type 0 where
  pub flag : flag_of w ≡ true
  pub second : bit w 1 ≡ true
  pub third : bit w 3 ≡ true
  pub presence : presence_of w ≡ p
  pub mode : mode_of w ≡ m
  pub argument : argument_of w ≡ g
  pub field_f : f_field_of w ≡ f % 32768
  pub address : address_of w ≡ a % 32768

pub record MscwBack (r : ℕ) (m s : Bool) (f w : ℕ) : Type 0 where
  pub flag : flag_of w ≡ true
  pub second : bit w 1 ≡ true
  pub third : bit w 3 ≡ false
  pub field_r : mscw_r_of w ≡ r % 512
  pub msff : mscw_msff_of w ≡ m
  pub salf : mscw_salf_of w ≡ s
  pub field_f : f_field_of w ≡ f % 32768

pub record RcwBack (d : Bool) (l f c w : ℕ) : Type 0 where
  pub flag : flag_of w ≡ true
  pub second : bit w 1 ≡ true
  pub third : bit w 3 ≡ false
  pub call : rcw_call_of w ≡ d
  pub field_l : rcw_l_of w ≡ l % 4
  pub field_f : f_field_of w ≡ f % 32768
  pub field_c : rcw_c_of w ≡ c % 32768
