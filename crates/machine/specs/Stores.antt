-- LITC, LOD, STD, SND and COM.
use Rattle.std.specs.Prelude.{ℕ, length}
use Rattle.machine.specs.declared.outcome.Cause.TheVariants.{Presence}
use Rattle.machine.specs.Outcomes.{Res, on, halt, ◌>>=◌, if◌then◌otherwise◌}
use Rattle.machine.specs.States.{State, fill_a, empty_a, empty_b, word_at, store}
use Rattle.machine.specs.Memory.{in_core, store_of, k_address_of}
use Rattle.machine.specs.Stack.{a_empty_of, a_full_of, both_full_of}
use Rattle.word.specs.Field.{field}
use Rattle.word.specs.Layout.{flag_of, presence_of, address_of}
use Rattle.word.specs.Addresses.{cell_address}

-- "LITC: A empty, A:=k."
unfoldable pub litc_of : State → ℕ → Res State
litc_of st k = do
  u ← a_empty_of st
  on (fill_a u k)

-- "Place: flag off, the address of A's low 10 bits; flag on, bit 2 off, 13, else bits 33-47, outside core 11."
unfoldable pub place_of : ℕ → State → ℕ → Res ℕ
place_of here st a =
    if flag_of a then (if presence_of a then in_core (length st.core) (address_of a) otherwise halt Presence)
    otherwise k_address_of here st (field a 38 47)

-- "LOD: one; A replaced by the word at A's place."
unfoldable pub lod_of : ℕ → State → Res State
lod_of here st = do
  u ← a_full_of st
  m ← place_of here u u.regs.a
  on (fill_a u (word_at u m))

-- "STD, SND: both full, B stored at A's place, A emptied; STD empties B too."
unfoldable pub snd_of : ℕ → State → Res State
snd_of here st = do
  u ← both_full_of st
  m ← place_of here u u.regs.a
  on (empty_a (store u m u.regs.b))

unfoldable pub std_of : ℕ → State → Res State
std_of here st = do
  u ← snd_of here st
  on (empty_b u)

-- "COM: A full, store it at 64R+9 (11), empty A, stop 17. It completes."
unfoldable pub com_of : State → Res State
com_of st = do
  u ← a_full_of st
  v ← store_of u (cell_address u.regs.r 9) u.regs.a
  on (empty_a v)
