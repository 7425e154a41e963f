-- "Trial sums": the cases marked P, as one table.
use Rattle.std.specs.Prelude.{ℕ, zero, suc, ◌+◌, ◌*◌, ◌-◌, ◌^◌, Bool, true, false, ◌&&◌, List, [], ◌∷◌, eqb, get_or, replicate}
use Rattle.machine.specs.States.{State, state_of, no_registers, set_s, set_r, fill_a, fill_b, with_s, store}
use Rattle.machine.specs.Steps.{Stepped, step_of}
use Rattle.word.specs.Layout.{data_of}

-- A state, how many steps are made from it, the number that the last gives back, and a word with the value it then has.
pub record Trial : Type 0 where
  pub start : State
  pub steps : ℕ
  pub number : ℕ
  pub word : Stepped → ℕ
  pub value : ℕ

-- Core of 128 words of 0, R = 1, S = 31, at word 0 syllable 0, all else 0, empty or off.
abbrev pub bare : State
bare = state_of (replicate 128 0) (set_r (set_s no_registers 31) 1)

-- The same with four syllables in word 0.
abbrev pub coded : ℕ → ℕ → ℕ → ℕ → State
coded p q r s = store bare 0 (p * 2 ^ 36 + q * 2 ^ 24 + r * 2 ^ 12 + s)

-- The same with one syllable, B and A full.
abbrev pub over : ℕ → ℕ → ℕ → State
over y b a = fill_a (fill_b (coded y 0 0 0) b) a

-- The same with one syllable and A full over an array of ten words at 100, which cell 10 names.
abbrev pub array : ℕ → ℕ → State
array y a = fill_a (store (store (coded y 0 0 0) 74 (data_of true 10 100)) 109 55) a

abbrev pub in_a : Stepped → ℕ
in_a r = r.regs.a

abbrev pub in_b : Stepped → ℕ
in_b r = r.regs.b

abbrev pub stack_top : Stepped → ℕ
stack_top r = r.regs.s

-- The syllable's number where the next one is read.
abbrev pub in_place : Stepped → ℕ
in_place r = 4 * r.regs.c + r.regs.l

abbrev pub litc : ℕ → ℕ
litc k = 4 * k

abbrev pub minus : ℕ → ℕ
minus n = 2 ^ 46 + n

unfoldable pub trials : List Trial
trials =
    -- P1: 5 7 SUB
    record { start = coded (litc 5) (litc 7) 0o0301 0; steps = 3; number = 0; word = in_b; value = 0o2000000000000002 } ∷
    -- P2: 2^39-1 plus 0 stands
    record { start = over 0o0101 (2 ^ 39 - 1) 0; steps = 1; number = 0; word = in_b; value = 2 ^ 39 - 1 } ∷
    -- P2: plus 1: 20
    record { start = over 0o0101 (2 ^ 39 - 1) 1; steps = 1; number = 20; word = in_b; value = 2 ^ 39 - 1 } ∷
    -- P3: -0 EQL 0: 1
    record { start = over 0o4425 (minus 0) 0; steps = 1; number = 0; word = in_b; value = 1 } ∷
    -- P4: -7 by 2: IDV -3
    record { start = over 0o3001 (minus 7) 2; steps = 1; number = 0; word = in_b; value = minus 3 } ∷
    -- P4: RDV -1
    record { start = over 0o7001 (minus 7) 2; steps = 1; number = 0; word = in_b; value = minus 1 } ∷
    -- P5: 2^20 times 2^19: 20
    record { start = over 0o0401 (2 ^ 20) (2 ^ 19); steps = 1; number = 20; word = in_b; value = 2 ^ 20 } ∷
    -- P6: size 10: index 9 good
    record { start = array (litc 10 + 2) 9; steps = 1; number = 0; word = in_a; value = 55 } ∷
    -- P6: 10: 15
    record { start = array (litc 10 + 2) 10; steps = 1; number = 15; word = in_a; value = 10 } ∷
    -- P7: DESC of an operand at 73
    record { start = store (coded (litc 9 + 3) 0 0 0) 73 1; steps = 1; number = 0; word = in_a; value = 0o5000000000000111 } ∷
    -- P8: MKS, R=1, F=0, flags off
    record { start = coded 0o0441 0 0 0; steps = 1; number = 0; word = λ r. get_or r.core 32 0; value = 0o6000100000000000 } ∷
    -- P9: R=1: push from S=62 good
    record { start = with_s (over (litc 3) 1 2) 62; steps = 1; number = 0; word = stack_top; value = 63 } ∷
    -- P9: from 63: 12
    record { start = with_s (over (litc 3) 1 2) 63; steps = 1; number = 12; word = stack_top; value = 63 } ∷
    -- P10: BFC over 1 falls through
    record { start = over 0o0231 1 9; steps = 1; number = 0; word = in_place; value = 1 } ∷
    -- P10: over 2 branches
    record { start = over 0o0231 2 9; steps = 1; number = 0; word = in_place; value = 10 } ∷
    []

-- The last of n steps, one after another while they give 0.
abbrev pub after : ℕ → Stepped → Stepped
after zero r = r
after (suc n) r = elim (eqb r.number 0) [ true ↦ after n (step_of r.core r.regs) | false ↦ r ]

abbrev pub comes : Trial → Bool
comes t =
    let r = after t.steps (record { number = 0; core = t.start.core; regs = t.start.regs }) in
    eqb r.number t.number && eqb (t.word r) t.value

abbrev pub all_come : List Trial → Bool
all_come [] = true
all_come (t ∷ ts) = comes t && all_come ts
