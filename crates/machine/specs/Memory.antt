-- Addresses: what is in core, and the address of k. "The reference table (PRT) starts at 64R."
use Rattle.std.specs.Prelude.{ℕ, ◌+◌, ◌-◌, ◌/◌, ◌%◌, List, eqb, ltb, length, get_or}
use Rattle.machine.specs.declared.outcome.Cause.TheVariants.{Address}
use Rattle.machine.specs.Outcomes.{Res, on, halt, ◌>>=◌, if◌then◌otherwise◌}
use Rattle.machine.specs.States.{State, store}
use Rattle.word.specs.Layout.{f_field_of}
use Rattle.word.specs.Addresses.{cell_address}

-- "Below 0 or not below core length: 11. This holds for every reference."
unfoldable pub in_core : ℕ → ℕ → Res ℕ
in_core len m = if ltb m len then on m otherwise halt Address

unfoldable pub read_of : List ℕ → ℕ → Res ℕ
read_of core m = do
  at ← in_core (length core) m
  on (get_or core at 0)

unfoldable pub store_of : State → ℕ → ℕ → Res State
store_of st m w = do
  at ← in_core (length st.core) m
  on (store st at w)

-- "Base is F, or with MSFF on the F field of the word at 64R+7."
unfoldable pub base_of : State → Res ℕ
base_of st =
    if st.regs.msff then
    (do
      w ← read_of st.core (cell_address st.regs.r 7)
      on (f_field_of w))
    otherwise on st.regs.f

-- "SALF on, by leading bits of k: 0, 64R + low 9 bits; 10, base + low 8; 110, the present syllable's word address + low 7; 111, base - low 7."
unfoldable pub pattern_of : ℕ → State → ℕ → Res ℕ
pattern_of here st k =
    if eqb (k / 512) 0 then in_core (length st.core) (cell_address st.regs.r (k % 512))
    otherwise if eqb (k / 256) 2 then
    (do
      b ← base_of st
      in_core (length st.core) (b + k % 256))
    otherwise if eqb (k / 128) 6 then in_core (length st.core) (here + k % 128)
    otherwise
    (do
      b ← base_of st
      if ltb b (k % 128) then halt Address otherwise in_core (length st.core) (b - k % 128))

-- "Address of k. SALF off: 64R+k." Here is the present syllable's word address.
unfoldable pub k_address_of : ℕ → State → ℕ → Res ℕ
k_address_of here st k =
    if st.regs.salf then pattern_of here st k otherwise in_core (length st.core) (cell_address st.regs.r k)
