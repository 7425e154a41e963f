-- OPDC, DESC and calling A.
use Rattle.std.specs.Prelude.{ℕ, Bool, true, false, not, ◌&&◌, eqb, ltb, ℤ, pos, negsuc}
use Rattle.machine.specs.declared.outcome.Cause.TheVariants.{Presence, Flag, Index, Unbuilt}
use Rattle.machine.specs.Outcomes.{Res, on, halt, ◌>>=◌, if◌then◌otherwise◌}
use Rattle.machine.specs.States.{State, fill_a, empty_a, empty_b, with_f, with_cl, with_salf, with_msff, word_at}
use Rattle.machine.specs.Memory.{read_of, k_address_of}
use Rattle.machine.specs.Stack.{push_of, push_b_of, a_empty_of, b_full_of}
use Rattle.machine.specs.Arithmetics.{taken_of}
use Rattle.word.specs.Field.{with_field}
use Rattle.word.specs.Layout.{flag_of, presence_of, size_of, address_of, data_of, mode_of, argument_of, f_field_of, mscw_of, rcw_of}
use Rattle.word.specs.Addresses.{sum_of}
use Rattle.word.specs.Kinds.{kind_of}
use Rattle.word.specs.declared.kinds.Kind.{Kind}
use Rattle.word.specs.declared.kinds.Kind.TheVariants.{Operand, Data, Program, Control}

-- "below 0 or at least size: 15; -0 is 0"
unfoldable pub within_of : ℤ → ℕ → Res ℕ
within_of (pos n) size = if ltb n size then on n otherwise halt Index
within_of (negsuc n) size = halt Index

-- "take B as index (exponent not 0: 20; .. flag ignored)"
unfoldable pub index_of : ℕ → ℕ → Res ℕ
index_of w size = do
  z ← taken_of w
  within_of z size

-- "Data descriptor of size over 0: B full, take B as index (..), empty B, add the index to the address (also modulo 32,768), set size 0."
unfoldable pub indexed_of : State → ℕ → Res State
indexed_of st d =
    if eqb (size_of d) 0 then on st
    otherwise
    (do
      u ← b_full_of st
      i ← index_of u.regs.b (size_of d)
      on (empty_b (fill_a u (with_field (with_field d 8 17 0) 33 47 (sum_of (address_of d) i)))))

-- "OPDC then reads that address (11 if outside core; flag on: 14) into A"
unfoldable pub load_of : State → Res State
load_of st = do
  w ← read_of st.core (address_of st.regs.a)
  if flag_of w then halt Flag otherwise on (fill_a st w)

-- "DESC leaves the descriptor. Size 0: the same without index."
unfoldable pub data_call_of : Bool → State → ℕ → Res State
data_call_of desc st d = do
  u ← indexed_of st d
  if desc then on u otherwise load_of u

-- "argument off, push MSCW and F:=S"
unfoldable pub mark_of : Bool → State → Res State
mark_of argument st =
    if argument then on st
    otherwise
    (do
      u ← push_of st (mscw_of st.regs.r st.regs.msff st.regs.salf st.regs.f)
      on (with_f u u.regs.s))

-- "enter: push B if full; argument off, push MSCW and F:=S; push RCW (bit 2 on for DESC, C and L of the next syllable);
-- F:=S with argument on, else the F field; C:=address, L:=0, A and B empty, SALF on, MSFF off."
unfoldable pub enter_of : Bool → State → ℕ → Res State
enter_of desc st d = do
  u ← push_b_of (empty_a st)
  v ← mark_of (argument_of d) u
  w ← push_of v (rcw_of desc v.regs.l v.regs.f v.regs.c)
  on (with_msff (with_salf (with_cl (with_f w (if argument_of d then w.regs.s otherwise f_field_of d)) (address_of d) 0) true) false)

-- "Program descriptor: mode on, 19; argument on with MSFF off, left in A; otherwise enter"
unfoldable pub program_call_of : Bool → State → ℕ → Res State
program_call_of desc st d =
    if mode_of d then halt Unbuilt
    otherwise if argument_of d && not st.regs.msff then on st
    otherwise enter_of desc st d

-- "Operand or control word: OPDC leaves it; DESC makes bits 0 and 2 on, address m, all else 0."
unfoldable pub left_of : Bool → ℕ → State → Res State
left_of desc m st = if desc then on (fill_a st (data_of true 0 m)) otherwise on st

-- "Calling A. Data or program descriptor with presence off: 13."
abbrev pub call_as : Kind → Bool → ℕ → State → ℕ → Res State
call_as Operand desc m st d = left_of desc m st
call_as Control desc m st d = left_of desc m st
call_as Data desc m st d = if presence_of d then data_call_of desc st d otherwise halt Presence
call_as Program desc m st d = if presence_of d then program_call_of desc st d otherwise halt Presence

unfoldable pub call_of : Bool → ℕ → State → Res State
call_of desc m st = call_as (kind_of st.regs.a) desc m st st.regs.a

-- "OPDC, DESC: A empty, form the address m from k, put the word at m in A, then call it."
unfoldable pub fetched_of : Bool → ℕ → State → ℕ → Res State
fetched_of desc here st k = do
  m ← k_address_of here st k
  call_of desc m (fill_a st (word_at st m))

unfoldable pub call_k_of : Bool → ℕ → State → ℕ → Res State
call_k_of desc here st k = do
  u ← a_empty_of st
  fetched_of desc here u k
