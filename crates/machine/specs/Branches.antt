-- The four branches.
use Rattle.std.specs.Prelude.{ℕ, ◌+◌, ◌-◌, ◌*◌, ◌/◌, ◌%◌, Bool, ltb}
use Rattle.machine.specs.declared.outcome.Cause.TheVariants.{Address, Presence}
use Rattle.machine.specs.Outcomes.{Res, on, halt, ◌>>=◌, if◌then◌otherwise◌}
use Rattle.machine.specs.States.{State, empty_a, empty_b, with_cl}
use Rattle.machine.specs.Stack.{a_full_of, both_full_of}
use Rattle.word.specs.Field.{field, bit}
use Rattle.word.specs.Layout.{flag_of, presence_of, address_of}

-- "syllables forward or back from the next one, which after 131,071 is 0; a target before syllable 0 or after 131,071: 11."
-- n is the number of the next syllable, to which the step has advanced.
unfoldable pub landing_of : Bool → ℕ → ℕ → Res ℕ
landing_of back n d =
    if back then (if ltb n d then halt Address otherwise on (n - d))
    otherwise if ltb 131071 (n + d) then halt Address
    otherwise on (n + d)

-- "Flag off: low 12 bits of A are syllables forward or back from the next one, .. Flag on: 13 if bit 2 off, else C:=address, L:=0."
unfoldable pub jump_of : Bool → State → ℕ → Res State
jump_of back st w =
    if flag_of w then (if presence_of w then on (with_cl st (address_of w) 0) otherwise halt Presence)
    otherwise
    (do
      n ← landing_of back (4 * st.regs.c + st.regs.l) (field w 36 47)
      on (with_cl st (n / 4) (n % 4)))

-- "BFW, BBW: one; .. A .. emptied, taken or not."
unfoldable pub always_of : Bool → State → Res State
always_of back st = do
  u ← a_full_of st
  jump_of back (empty_a u) u.regs.a

-- "BFC, BBC: both full, branch only if bit 47 of B is off. A, and B in BFC and BBC, are emptied, taken or not. .. An untaken branch doesn't look at A."
unfoldable pub if_off_of : Bool → State → Res State
if_off_of back st = do
  u ← both_full_of st
  if bit u.regs.b 47 then on (empty_b (empty_a u)) otherwise jump_of back (empty_b (empty_a u)) u.regs.a
