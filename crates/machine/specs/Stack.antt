-- The stack, push, pop and the four adjustments.
use Rattle.std.specs.Prelude.{ℕ, ◌+◌, ◌-◌, ◌/◌, List, [], ◌∷◌, ◌++◌, eqb, length, take}
use Rattle.machine.specs.declared.outcome.Cause.TheVariants.{Address, Overflow}
use Rattle.machine.specs.Outcomes.{Res, on, halt, ◌>>=◌, if◌then◌otherwise◌}
use Rattle.machine.specs.States.{State, fill_a, empty_a, fill_b, empty_b, with_s, store}
use Rattle.machine.specs.Memory.{in_core, read_of}

-- "The stack is core up to S, then B if full, then A if full. It grows upward." The bottom first.
unfoldable pub stack_of : State → List ℕ
stack_of st =
    take (st.regs.s + 1) st.core ++ (if st.regs.bfull then st.regs.b ∷ [] otherwise []) ++ (if st.regs.afull then st.regs.a ∷ [] otherwise [])

-- "Push: to S+1; .. Stop 12 if floor((S+1)/64)=R, else 11 if S+1 is not below the core length." The address that a push writes.
unfoldable pub slot_of : ℕ → ℕ → ℕ → Res ℕ
slot_of len s r = if eqb ((s + 1) / 64) r then halt Overflow otherwise in_core len (s + 1)

unfoldable pub push_of : State → ℕ → Res State
push_of st w = do
  up ← slot_of (length st.core) st.regs.s st.regs.r
  on (with_s (store st up w) up)

-- "Pop: 11 if S=0 or S is not below the core length; else read at S, then S-1."
unfoldable pub top_of : List ℕ → ℕ → Res ℕ
top_of core s = if eqb s 0 then halt Address otherwise read_of core s

abbrev pub down : State → State
down st = with_s st (st.regs.s - 1)

-- "push B if full"; "a register pushed, moved or taken becomes empty"
unfoldable pub push_b_of : State → Res State
push_b_of st =
    if st.regs.bfull then
    (do
      u ← push_of st st.regs.b
      on (empty_b u))
    otherwise on st

unfoldable pub push_a_of : State → Res State
push_a_of st =
    if st.regs.afull then
    (do
      u ← push_of st st.regs.a
      on (empty_a u))
    otherwise on st

-- "A empty: if A is full, push B if full, move A to B."
unfoldable pub a_empty_of : State → Res State
a_empty_of st =
    if st.regs.afull then
    (do
      u ← push_b_of st
      on (empty_a (fill_b u u.regs.a)))
    otherwise on st

-- "A full: if empty, take B if full, else pop."
unfoldable pub a_full_of : State → Res State
a_full_of st =
    if st.regs.afull then on st
    otherwise if st.regs.bfull then on (empty_b (fill_a st st.regs.b))
    otherwise
    (do
      w ← top_of st.core st.regs.s
      on (fill_a (down st) w))

-- "B full: if empty, pop."
unfoldable pub b_full_of : State → Res State
b_full_of st =
    if st.regs.bfull then on st
    otherwise
    (do
      w ← top_of st.core st.regs.s
      on (fill_b (down st) w))

-- "Both full: make A full, then pop B if empty."
unfoldable pub both_full_of : State → Res State
both_full_of st = do
  u ← a_full_of st
  b_full_of u
