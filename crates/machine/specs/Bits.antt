-- Logic, single bits, and the exchanges of A and B.
use Rattle.std.specs.Prelude.{ℕ, ◌-◌, ◌^◌, not}
use Rattle.std.specs.Int.Bits.{bit_and, bit_or, bit_xor}
use Rattle.machine.specs.Outcomes.{Res, on, ◌>>=◌}
use Rattle.machine.specs.States.{State, fill_a, empty_a, fill_b, empty_b}
use Rattle.machine.specs.Stack.{a_empty_of, a_full_of, b_full_of, both_full_of, push_b_of}
use Rattle.word.specs.Field.{field, with_field, one_of}
use Rattle.word.specs.Layout.{flag_of, body_of, address_of}
use Rattle.word.specs.Addresses.{sum_of}

-- "LND, LOR, LQV: two, bits 1-47, flag of B."
abbrev pub lnd_of : ℕ → ℕ → ℕ
lnd_of b a = with_field b 1 47 (bit_and (body_of b) (body_of a))

abbrev pub lor_of : ℕ → ℕ → ℕ
lor_of b a = with_field b 1 47 (bit_or (body_of b) (body_of a))

abbrev pub lqv_of : ℕ → ℕ → ℕ
lqv_of b a = with_field b 1 47 (2 ^ 47 - 1 - bit_xor (body_of b) (body_of a))

unfoldable pub two_words_of : (ℕ → ℕ → ℕ) → State → Res State
two_words_of f st = do
  u ← both_full_of st
  on (empty_a (fill_b u (f u.regs.b u.regs.a)))

-- "LNG: one, bits 1-47 turned over."
abbrev pub lng_of : ℕ → ℕ
lng_of a = with_field a 1 47 (2 ^ 47 - 1 - body_of a)

-- "MOP, MDS flag off, on; SSP, SSN, CHS sign bit off, on, turned: one."
abbrev pub mop_of : ℕ → ℕ
mop_of a = with_field a 0 0 0

abbrev pub mds_of : ℕ → ℕ
mds_of a = with_field a 0 0 1

abbrev pub ssp_of : ℕ → ℕ
ssp_of a = with_field a 1 1 0

abbrev pub ssn_of : ℕ → ℕ
ssn_of a = with_field a 1 1 1

abbrev pub chs_of : ℕ → ℕ
chs_of a = with_field a 1 1 (1 - field a 1 1)

-- "One": A full.
unfoldable pub one_word_of : (ℕ → ℕ) → State → Res State
one_word_of f st = do
  u ← a_full_of st
  on (fill_a u (f u.regs.a))

-- "TOP: A empty, B full, A:=1 if B's flag is off, else 0."
unfoldable pub top_flag_of : State → Res State
top_flag_of st = do
  u ← a_empty_of st
  v ← b_full_of u
  on (fill_a v (one_of (not (flag_of v.regs.b))))

-- "XCH: both full, exchanged."
unfoldable pub xch_of : State → Res State
xch_of st = do
  u ← both_full_of st
  on (fill_b (fill_a u u.regs.b) u.regs.a)

-- "DUP: A full; if B is full push it; B:=A."
unfoldable pub dup_of : State → Res State
dup_of st = do
  u ← a_full_of st
  v ← push_b_of u
  on (fill_b v v.regs.a)

-- "DEL: A full, emptied."
unfoldable pub del_of : State → Res State
del_of st = do
  u ← a_full_of st
  on (empty_a u)

-- "INX: both full; INX adds the low 15 bits of B to A's address, modulo 32,768; B emptied."
unfoldable pub inx_of : State → Res State
inx_of st = do
  u ← both_full_of st
  on (empty_b (fill_a u (with_field u.regs.a 33 47 (sum_of (address_of u.regs.a) (field u.regs.b 33 47)))))
