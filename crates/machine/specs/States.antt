-- The state: core and registers; and the setters, the only definitions that write a whole record.
use Rattle.std.specs.Prelude.{ℕ, Bool, true, false, List, set, get_or}
use Rattle.machine.specs.declared.outcome.Registers.{Registers}

-- "Registers: A, B (48 bits, each full or empty; empty holds 0), S, F, C (15 bits), R (9), L (2), flags SALF, MSFF."
pub record State : Type 0 where
  pub core : List ℕ
  pub regs : Registers

abbrev pub state_of : List ℕ → Registers → State
state_of core g = record { core = core; regs = g }

-- All registers 0, A and B empty, flags off.
abbrev pub no_registers : Registers
no_registers = record { a = 0; afull = false; b = 0; bfull = false; s = 0; f = 0; c = 0; r = 0; l = 0; salf = false; msff = false }

abbrev pub set_a : Registers → Bool → ℕ → Registers
set_a g full x = record { a = x; afull = full; b = g.b; bfull = g.bfull; s = g.s; f = g.f; c = g.c; r = g.r; l = g.l; salf = g.salf; msff = g.msff }

abbrev pub set_b : Registers → Bool → ℕ → Registers
set_b g full x = record { a = g.a; afull = g.afull; b = x; bfull = full; s = g.s; f = g.f; c = g.c; r = g.r; l = g.l; salf = g.salf; msff = g.msff }

abbrev pub set_s : Registers → ℕ → Registers
set_s g x = record { a = g.a; afull = g.afull; b = g.b; bfull = g.bfull; s = x; f = g.f; c = g.c; r = g.r; l = g.l; salf = g.salf; msff = g.msff }

abbrev pub set_f : Registers → ℕ → Registers
set_f g x = record { a = g.a; afull = g.afull; b = g.b; bfull = g.bfull; s = g.s; f = x; c = g.c; r = g.r; l = g.l; salf = g.salf; msff = g.msff }

abbrev pub set_cl : Registers → ℕ → ℕ → Registers
set_cl g c l = record { a = g.a; afull = g.afull; b = g.b; bfull = g.bfull; s = g.s; f = g.f; c = c; r = g.r; l = l; salf = g.salf; msff = g.msff }

abbrev pub set_r : Registers → ℕ → Registers
set_r g x = record { a = g.a; afull = g.afull; b = g.b; bfull = g.bfull; s = g.s; f = g.f; c = g.c; r = x; l = g.l; salf = g.salf; msff = g.msff }

abbrev pub set_salf : Registers → Bool → Registers
set_salf g x = record { a = g.a; afull = g.afull; b = g.b; bfull = g.bfull; s = g.s; f = g.f; c = g.c; r = g.r; l = g.l; salf = x; msff = g.msff }

abbrev pub set_msff : Registers → Bool → Registers
set_msff g x = record { a = g.a; afull = g.afull; b = g.b; bfull = g.bfull; s = g.s; f = g.f; c = g.c; r = g.r; l = g.l; salf = g.salf; msff = x }

-- The same of a state.
abbrev pub with_regs : State → Registers → State
with_regs st g = record { core = st.core; regs = g }

abbrev pub fill_a : State → ℕ → State
fill_a st x = with_regs st (set_a st.regs true x)

abbrev pub empty_a : State → State
empty_a st = with_regs st (set_a st.regs false 0)

abbrev pub fill_b : State → ℕ → State
fill_b st x = with_regs st (set_b st.regs true x)

abbrev pub empty_b : State → State
empty_b st = with_regs st (set_b st.regs false 0)

abbrev pub with_s : State → ℕ → State
with_s st x = with_regs st (set_s st.regs x)

abbrev pub with_f : State → ℕ → State
with_f st x = with_regs st (set_f st.regs x)

abbrev pub with_cl : State → ℕ → ℕ → State
with_cl st c l = with_regs st (set_cl st.regs c l)

abbrev pub with_r : State → ℕ → State
with_r st x = with_regs st (set_r st.regs x)

abbrev pub with_salf : State → Bool → State
with_salf st x = with_regs st (set_salf st.regs x)

abbrev pub with_msff : State → Bool → State
with_msff st x = with_regs st (set_msff st.regs x)

-- The word at an address of core, and the state with another word there.
abbrev pub word_at : State → ℕ → ℕ
word_at st m = get_or st.core m 0

abbrev pub store : State → ℕ → ℕ → State
store st m w = record { core = set st.core m w; regs = st.regs }
