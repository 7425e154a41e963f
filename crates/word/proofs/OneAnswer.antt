-- Any two permitted answers of a call are equal, and so is what they leave behind its references.
use Prim.Native.Nat.{ℕ}
use mathlib.Core.Path.{◌≡◌, refl}
use mathlib.Core.Option.{Option, some, none}
use lib.IntN.{ℤ}
use Rattle.word.specs.Numbers.{OrNumber, the, given_back, says_whole, says_made}
use Rattle.std.specs.declared.option.Option.{Option as Found}
use Rattle.std.specs.declared.option.Option.TheVariants.{Some, None}
use Rattle.word.proofs.Sole.{sole, sole_said}
use Rattle.word.proofs.addresses.cell_address.Reads as cell_address
use Rattle.word.proofs.addresses.sum.Reads as sum
use Rattle.word.proofs.arrays.array_in.Reads as array_in
use Rattle.word.proofs.cores.length_fits.Reads as length_fits
use Rattle.word.proofs.cores.words_fit.Reads as words_fit
use Rattle.word.proofs.cores.check_core.Reads as check_core
use Rattle.word.proofs.digits.from_digits.Reads as from_digits
use Rattle.word.proofs.digits.to_digits.Reads as to_digits
use Rattle.word.proofs.fields.bits.Reads as bits
use Rattle.word.proofs.kinds.kind_of.Reads as kind_of
use Rattle.word.proofs.layout.address.Reads as address
use Rattle.word.proofs.layout.argument.Reads as argument
use Rattle.word.proofs.layout.body.Reads as body
use Rattle.word.proofs.layout.data.Reads as «data»
use Rattle.word.proofs.layout.exponent.Reads as exponent
use Rattle.word.proofs.layout.f_field.Reads as f_field
use Rattle.word.proofs.layout.flag.Reads as flag
use Rattle.word.proofs.layout.magnitude.Reads as magnitude
use Rattle.word.proofs.layout.mode.Reads as mode
use Rattle.word.proofs.layout.mscw.Reads as mscw
use Rattle.word.proofs.layout.mscw_msff.Reads as mscw_msff
use Rattle.word.proofs.layout.mscw_r.Reads as mscw_r
use Rattle.word.proofs.layout.mscw_salf.Reads as mscw_salf
use Rattle.word.proofs.layout.presence.Reads as presence
use Rattle.word.proofs.layout.program.Reads as program
use Rattle.word.proofs.layout.rcw.Reads as rcw
use Rattle.word.proofs.layout.rcw_c.Reads as rcw_c
use Rattle.word.proofs.layout.rcw_call.Reads as rcw_call
use Rattle.word.proofs.layout.rcw_l.Reads as rcw_l
use Rattle.word.proofs.layout.sign.Reads as sign
use Rattle.word.proofs.layout.size.Reads as size
use Rattle.word.proofs.layout.with_address.Reads as with_address
use Rattle.word.proofs.layout.with_body.Reads as with_body
use Rattle.word.proofs.layout.with_flag.Reads as with_flag
use Rattle.word.proofs.layout.with_sign.Reads as with_sign
use Rattle.word.proofs.layout.with_size.Reads as with_size
use Rattle.word.proofs.number.operand_of.Reads as operand_of
use Rattle.word.proofs.number.value.Reads as value
use Rattle.word.proofs.number.whole_of.Reads as whole_of
use Rattle.word.specs.Digits.{says_reading}

-- Each answer comes back from what its cases say, so the saying is one to one.
abbrev found : {A : Type 0} → OrNumber A → Found A
found (the x) = Some x
found (given_back n) = None

whole_back : (r : Found ℤ) → found (says_whole r) ≡ r
whole_back (Some z) = refl
whole_back None = refl

made_back : (r : Found ℕ) → found (says_made r) ≡ r
made_back (Some w) = refl
made_back None = refl

abbrev read : Option ℕ → Found ℕ
read (some n) = Some n
read none = None

read_back : (r : Found ℕ) → read (says_reading r) ≡ r
read_back (Some n) = refl
read_back None = refl

pub cell_address_sole : (κs : _) (a : _) (r r' : _) (e e' : _) → cell_address.Learnt κs a r e → cell_address.Learnt κs a r' e' → r ≡ r'
cell_address_sole κs a r r' e e' p q = sole p q

pub sum_sole : (κs : _) (a : _) (r r' : _) (e e' : _) → sum.Learnt κs a r e → sum.Learnt κs a r' e' → r ≡ r'
sum_sole κs a r r' e e' p q = sole p q

pub array_in_sole : (κs : _) (a : _) (r r' : _) (e e' : _) → array_in.Learnt κs a r e → array_in.Learnt κs a r' e' → r ≡ r'
array_in_sole κs a r r' e e' p q = sole p q

pub length_fits_sole : (κs : _) (a : _) (r r' : _) (e e' : _) → length_fits.Learnt κs a r e → length_fits.Learnt κs a r' e' → r ≡ r'
length_fits_sole κs a r r' e e' p q = sole p q

pub words_fit_sole : (κs : _) (a : _) (r r' : _) (e e' : _) → words_fit.Learnt κs a r e → words_fit.Learnt κs a r' e' → r ≡ r'
words_fit_sole κs a r r' e e' p q = sole p q

pub check_core_sole : (κs : _) (a : _) (r r' : _) (e e' : _) → check_core.Learnt κs a r e → check_core.Learnt κs a r' e' → r ≡ r'
check_core_sole κs a r r' e e' p q = sole p q

pub from_digits_sole : (κs : _) (a : _) (r r' : _) (e e' : _) → from_digits.Learnt κs a r e → from_digits.Learnt κs a r' e' → r ≡ r'
from_digits_sole κs a r r' e e' p q = sole_said says_reading read read_back p q

pub to_digits_sole : (κs : _) (a : _) (r r' : _) (e e' : _) → to_digits.Learnt κs a r e → to_digits.Learnt κs a r' e' → e.1.1.0.now ≡ e'.1.1.0.now
to_digits_sole κs a r r' e e' p q = sole p q

pub bits_sole : (κs : _) (a : _) (r r' : _) (e e' : _) → bits.Learnt κs a r e → bits.Learnt κs a r' e' → r ≡ r'
bits_sole κs a r r' e e' p q = sole p q

pub kind_of_sole : (κs : _) (a : _) (r r' : _) (e e' : _) → kind_of.Learnt κs a r e → kind_of.Learnt κs a r' e' → r ≡ r'
kind_of_sole κs a r r' e e' p q = sole p q

pub address_sole : (κs : _) (a : _) (r r' : _) (e e' : _) → address.Learnt κs a r e → address.Learnt κs a r' e' → r ≡ r'
address_sole κs a r r' e e' p q = sole p q

pub argument_sole : (κs : _) (a : _) (r r' : _) (e e' : _) → argument.Learnt κs a r e → argument.Learnt κs a r' e' → r ≡ r'
argument_sole κs a r r' e e' p q = sole p q

pub body_sole : (κs : _) (a : _) (r r' : _) (e e' : _) → body.Learnt κs a r e → body.Learnt κs a r' e' → r ≡ r'
body_sole κs a r r' e e' p q = sole p q

pub data_sole : (κs : _) (a : _) (r r' : _) (e e' : _) → «data».Learnt κs a r e → «data».Learnt κs a r' e' → r ≡ r'
data_sole κs a r r' e e' p q = sole p q

pub exponent_sole : (κs : _) (a : _) (r r' : _) (e e' : _) → exponent.Learnt κs a r e → exponent.Learnt κs a r' e' → r ≡ r'
exponent_sole κs a r r' e e' p q = sole p q

pub f_field_sole : (κs : _) (a : _) (r r' : _) (e e' : _) → f_field.Learnt κs a r e → f_field.Learnt κs a r' e' → r ≡ r'
f_field_sole κs a r r' e e' p q = sole p q

pub flag_sole : (κs : _) (a : _) (r r' : _) (e e' : _) → flag.Learnt κs a r e → flag.Learnt κs a r' e' → r ≡ r'
flag_sole κs a r r' e e' p q = sole p q

pub magnitude_sole : (κs : _) (a : _) (r r' : _) (e e' : _) → magnitude.Learnt κs a r e → magnitude.Learnt κs a r' e' → r ≡ r'
magnitude_sole κs a r r' e e' p q = sole p q

pub mode_sole : (κs : _) (a : _) (r r' : _) (e e' : _) → mode.Learnt κs a r e → mode.Learnt κs a r' e' → r ≡ r'
mode_sole κs a r r' e e' p q = sole p q

pub mscw_sole : (κs : _) (a : _) (r r' : _) (e e' : _) → mscw.Learnt κs a r e → mscw.Learnt κs a r' e' → r ≡ r'
mscw_sole κs a r r' e e' p q = sole p q

pub mscw_msff_sole : (κs : _) (a : _) (r r' : _) (e e' : _) → mscw_msff.Learnt κs a r e → mscw_msff.Learnt κs a r' e' → r ≡ r'
mscw_msff_sole κs a r r' e e' p q = sole p q

pub mscw_r_sole : (κs : _) (a : _) (r r' : _) (e e' : _) → mscw_r.Learnt κs a r e → mscw_r.Learnt κs a r' e' → r ≡ r'
mscw_r_sole κs a r r' e e' p q = sole p q

pub mscw_salf_sole : (κs : _) (a : _) (r r' : _) (e e' : _) → mscw_salf.Learnt κs a r e → mscw_salf.Learnt κs a r' e' → r ≡ r'
mscw_salf_sole κs a r r' e e' p q = sole p q

pub presence_sole : (κs : _) (a : _) (r r' : _) (e e' : _) → presence.Learnt κs a r e → presence.Learnt κs a r' e' → r ≡ r'
presence_sole κs a r r' e e' p q = sole p q

pub program_sole : (κs : _) (a : _) (r r' : _) (e e' : _) → program.Learnt κs a r e → program.Learnt κs a r' e' → r ≡ r'
program_sole κs a r r' e e' p q = sole p q

pub rcw_sole : (κs : _) (a : _) (r r' : _) (e e' : _) → rcw.Learnt κs a r e → rcw.Learnt κs a r' e' → r ≡ r'
rcw_sole κs a r r' e e' p q = sole p q

pub rcw_c_sole : (κs : _) (a : _) (r r' : _) (e e' : _) → rcw_c.Learnt κs a r e → rcw_c.Learnt κs a r' e' → r ≡ r'
rcw_c_sole κs a r r' e e' p q = sole p q

pub rcw_call_sole : (κs : _) (a : _) (r r' : _) (e e' : _) → rcw_call.Learnt κs a r e → rcw_call.Learnt κs a r' e' → r ≡ r'
rcw_call_sole κs a r r' e e' p q = sole p q

pub rcw_l_sole : (κs : _) (a : _) (r r' : _) (e e' : _) → rcw_l.Learnt κs a r e → rcw_l.Learnt κs a r' e' → r ≡ r'
rcw_l_sole κs a r r' e e' p q = sole p q

pub sign_sole : (κs : _) (a : _) (r r' : _) (e e' : _) → sign.Learnt κs a r e → sign.Learnt κs a r' e' → r ≡ r'
sign_sole κs a r r' e e' p q = sole p q

pub size_sole : (κs : _) (a : _) (r r' : _) (e e' : _) → size.Learnt κs a r e → size.Learnt κs a r' e' → r ≡ r'
size_sole κs a r r' e e' p q = sole p q

pub with_address_sole : (κs : _) (a : _) (r r' : _) (e e' : _) → with_address.Learnt κs a r e → with_address.Learnt κs a r' e' → r ≡ r'
with_address_sole κs a r r' e e' p q = sole p q

pub with_body_sole : (κs : _) (a : _) (r r' : _) (e e' : _) → with_body.Learnt κs a r e → with_body.Learnt κs a r' e' → r ≡ r'
with_body_sole κs a r r' e e' p q = sole p q

pub with_flag_sole : (κs : _) (a : _) (r r' : _) (e e' : _) → with_flag.Learnt κs a r e → with_flag.Learnt κs a r' e' → r ≡ r'
with_flag_sole κs a r r' e e' p q = sole p q

pub with_sign_sole : (κs : _) (a : _) (r r' : _) (e e' : _) → with_sign.Learnt κs a r e → with_sign.Learnt κs a r' e' → r ≡ r'
with_sign_sole κs a r r' e e' p q = sole p q

pub with_size_sole : (κs : _) (a : _) (r r' : _) (e e' : _) → with_size.Learnt κs a r e → with_size.Learnt κs a r' e' → r ≡ r'
with_size_sole κs a r r' e e' p q = sole p q

pub operand_of_sole : (κs : _) (a : _) (r r' : _) (e e' : _) → operand_of.Learnt κs a r e → operand_of.Learnt κs a r' e' → r ≡ r'
operand_of_sole κs a r r' e e' p q = sole_said says_made found made_back p q

pub value_sole : (κs : _) (a : _) (r r' : _) (e e' : _) → value.Learnt κs a r e → value.Learnt κs a r' e' → r ≡ r'
value_sole κs a r r' e e' p q = sole p q

pub whole_of_sole : (κs : _) (a : _) (r r' : _) (e e' : _) → whole_of.Learnt κs a r e → whole_of.Learnt κs a r' e' → r ≡ r'
whole_of_sole κs a r r' e e' p q = sole_said says_whole found whole_back p q
