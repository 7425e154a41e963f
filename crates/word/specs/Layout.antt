-- The layouts of paper 01: each field read by its bits, and each word made. "Fields not named are written 0."
use Rattle.std.specs.Prelude.{ℕ, ◌+◌, Bool, not, ◌&&◌, ltb, leb}
use Rattle.word.specs.Field.{field, placed, bit, one_of}

-- "Bit 0 is the flag."
abbrev pub flag_of : ℕ → Bool
flag_of w = bit w 0

-- "bits 1-47": all but the flag.
abbrev pub body_of : ℕ → ℕ
body_of w = field w 1 47

-- "Operand: flag off, bit 1 sign, bits 2-8 exponent .., 9-47 magnitude."
abbrev pub sign_of : ℕ → Bool
sign_of w = bit w 1

abbrev pub exponent_of : ℕ → ℕ
exponent_of w = field w 2 8

abbrev pub magnitude_of : ℕ → ℕ
magnitude_of w = field w 9 47

-- "Data descriptor: flag on, bit 1 off, bit 2 presence, 8-17 size, 33-47 address."
abbrev pub presence_of : ℕ → Bool
presence_of w = bit w 2

abbrev pub size_of : ℕ → ℕ
size_of w = field w 8 17

abbrev pub address_of : ℕ → ℕ
address_of w = field w 33 47

abbrev pub data_of : Bool → ℕ → ℕ → ℕ
data_of presence size address = placed 0 0 1 + placed 2 2 (one_of presence) + placed 8 17 size + placed 33 47 address

-- "a present data descriptor of size over 0 wholly in core", of a core of `len` words
unfoldable pub array_in : ℕ → ℕ → Bool
array_in len w = flag_of w && not (bit w 1) && presence_of w && ltb 0 (size_of w) && leb (address_of w + size_of w) len

-- "Program descriptor: bits 0, 1, 3 on, 2 presence, 4 mode, 5 argument, 18-32 F field, 33-47 address."
abbrev pub mode_of : ℕ → Bool
mode_of w = bit w 4

abbrev pub argument_of : ℕ → Bool
argument_of w = bit w 5

abbrev pub f_field_of : ℕ → ℕ
f_field_of w = field w 18 32

abbrev pub program_of : Bool → Bool → Bool → ℕ → ℕ → ℕ
program_of presence mode argument f address =
    placed 0 1 3 + placed 2 2 (one_of presence) + placed 3 3 1 + placed 4 4 (one_of mode) + placed 5 5 (one_of argument)
    + placed 18 32 f
    + placed 33 47 address

-- "Control word: bits 0, 1 on, bit 3 off. MSCW: 6-14 R, 16 MSFF, 17 SALF, 18-32 F."
abbrev pub mscw_r_of : ℕ → ℕ
mscw_r_of w = field w 6 14

abbrev pub mscw_msff_of : ℕ → Bool
mscw_msff_of w = bit w 16

abbrev pub mscw_salf_of : ℕ → Bool
mscw_salf_of w = bit w 17

abbrev pub mscw_of : ℕ → Bool → Bool → ℕ → ℕ
mscw_of r msff salf f =
    placed 0 1 3 + placed 6 14 r + placed 16 16 (one_of msff) + placed 17 17 (one_of salf) + placed 18 32 f

-- "RCW: 2 descriptor call, 10-11 L, 18-32 F, 33-47 C."
abbrev pub rcw_call_of : ℕ → Bool
rcw_call_of w = bit w 2

abbrev pub rcw_l_of : ℕ → ℕ
rcw_l_of w = field w 10 11

abbrev pub rcw_c_of : ℕ → ℕ
rcw_c_of w = field w 33 47

abbrev pub rcw_of : Bool → ℕ → ℕ → ℕ → ℕ
rcw_of call l f c = placed 0 1 3 + placed 2 2 (one_of call) + placed 10 11 l + placed 18 32 f + placed 33 47 c
