-- A fit state: what the checks 1, 2 and 3 ask of a core and registers, as facts; and what it is to keep one fit.
use Rattle.std.specs.Prelude.{◌≡◌, Bool, true, false, List, ℕ, ◌^◌, ◌<◌, ◌≤◌, length, get_or}
use Rattle.machine.specs.declared.outcome.Registers.{Registers}
use Rattle.machine.specs.States.{State}
use Rattle.machine.specs.Steps.{Ended, next, communicated, stopped}

-- A word has 48 bits.
abbrev pub Word : ℕ → Type 0
Word w = w < 2 ^ 48

-- "each full or empty; empty holds 0"
abbrev pub Holds : Bool → ℕ → Type 0
Holds true x = Word x
Holds false x = x ≡ 0

-- Every word of a core has 48 bits.
abbrev pub Words : List ℕ → Type 0
Words core = (i : ℕ) → Word (get_or core i 0)

-- "S, F, C (15 bits), R (9), L (2)"
pub record InRange (g : Registers) : Type 0 where
  pub a : Holds g.afull g.a
  pub b : Holds g.bfull g.b
  pub s : g.s < 32768
  pub f : g.f < 32768
  pub c : g.c < 32768
  pub r : g.r < 512
  pub l : g.l < 4

-- "Core has 1 to 32,768 words."
pub record Fit (st : State) : Type 0 where
  pub some : 0 < length st.core
  pub most : length st.core ≤ 32768
  pub words : Words st.core
  pub regs : InRange st.regs

-- What comes of a state is fit, and its core as long.
pub record Keeps (st u : State) : Type 0 where
  pub fit : Fit u
  pub size : length u.core ≡ length st.core

-- The state that a syllable goes on or communicates with, if there is one, is so.
abbrev pub After : (State → Type 0) → Ended → Type 0
After P (next u) = P u
After P (communicated u) = P u
After P (stopped n) = Unit {0}
