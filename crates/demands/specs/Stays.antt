-- What it is that a segment stays inside its sheet, said of a state that it reaches; demand 3 (Demand3.antt) claims it of every passed segment.
use Rattle.std.specs.Prelude.{ℕ, zero, suc, ◌+◌, ◌<◌, ◌≤◌, ◌≡◌, ◌⊎◌, true, false, List, length, get_or}
use Rattle.word.specs.Field.{bit}
use Rattle.word.specs.Layout.{flag_of, presence_of, size_of, address_of}
use Rattle.machine.specs.declared.outcome.Cause.{Cause}
use Rattle.machine.specs.declared.outcome.Cause.TheVariants.{Address, Overflow, Presence, Flag, Index, Unbuilt, Unwhole, ZeroDivisor}
use Rattle.machine.specs.States.{State, state_of, no_registers, set_s, set_cl, set_r}
use Rattle.machine.specs.Steps.{Ended, next, communicated, stopped, execute_of, refusal_of}
use Rattle.sheet.specs.Sheets.{code_of, code_words_of, s_of, room_of, r_of, cell_of}
use Rattle.word.specs.Addresses.{cell_address}

-- "Start: C first code word, L, F 0, A, B empty, SALF, MSFF off", S and R as the sheet has them.
abbrev pub start_of : List ℕ → List ℕ → State
start_of core sheet = state_of core (set_s (set_r (set_cl no_registers (code_of sheet) 0) (r_of sheet)) (s_of sheet))

-- The state after n completed steps with no stop so far.
abbrev pub Reaches : ℕ → State → State → Type 0
Reaches zero st u = u ≡ st
Reaches (suc n) st u = (v : State) × Reaches n st v × (execute_of v ≡ next u)

-- The words that the sheet names: stack words S+1 to S+d; and, open to stores, number cells and the words of the arrays that array cells name.
pub record StackWord (sheet : List ℕ) (m : ℕ) : Type 0 where
  pub above : s_of sheet < m
  pub within : m ≤ s_of sheet + room_of sheet

pub record NumberCell (sheet : List ℕ) (m : ℕ) : Type 0 where
  pub cell : ℕ
  pub number : cell_of sheet cell ≡ 3
  pub here : m ≡ cell_address (r_of sheet) cell

pub record ArrayWord (core sheet : List ℕ) (m : ℕ) : Type 0 where
  pub cell : ℕ
  pub array : cell_of sheet cell ≡ 4
  pub from : address_of (get_or core (cell_address (r_of sheet) cell) 0) ≤ m
  pub below : m < address_of (get_or core (cell_address (r_of sheet) cell) 0) + size_of (get_or core (cell_address (r_of sheet) cell) 0)

abbrev pub Open : List ℕ → List ℕ → ℕ → Type 0
Open core sheet m = NumberCell sheet m ⊎ ArrayWord core sheet m

abbrev pub Named : List ℕ → List ℕ → ℕ → Type 0
Named core sheet m = StackWord sheet m ⊎ Open core sheet m

-- Two cores have the same words wherever the sheet (read over the inspected core) names none.
abbrev pub SameOutside : List ℕ → List ℕ → List ℕ → List ℕ → Type 0
SameOutside core sheet l l' = (m : ℕ) → (Named core sheet m → ⊥) → get_or l m 0 ≡ get_or l' m 0

-- Number cells and array words hold plain operands.
abbrev pub Plain : List ℕ → List ℕ → List ℕ → Type 0
Plain core sheet l = (m : ℕ) → Open core sheet m → flag_of (get_or l m 0) ≡ false

-- A word of the stack is plain, or a place: a present data descriptor of size 0 whose address is a number cell or an array word.
pub record Place (core sheet : List ℕ) (w : ℕ) : Type 0 where
  pub flag : flag_of w ≡ true
  pub second : bit w 1 ≡ false
  pub presence : presence_of w ≡ true
  pub size : size_of w ≡ 0
  pub target : Open core sheet (address_of w)

abbrev pub Stacked : List ℕ → List ℕ → ℕ → Type 0
Stacked core sheet w = (flag_of w ≡ false) ⊎ Place core sheet w

-- Demand 3's own sentence: it stops only for 15, 17, 20 or 21. Here the causes of 15, 20 and 21; 17 is COM's, which completes.
abbrev pub Allowed : Cause → Type 0
Allowed Address = ⊥
Allowed Overflow = ⊥
Allowed Presence = ⊥
Allowed Flag = ⊥
Allowed Index = Unit {0}
Allowed Unbuilt = ⊥
Allowed Unwhole = Unit {0}
Allowed ZeroDivisor = Unit {0}

-- The core after a step beside the core before it: as long, the same words outside what the sheet names, number cells and array words plain.
pub record Writes (core sheet after before : List ℕ) : Type 0 where
  pub size : length after ≡ length before
  pub only : SameOutside core sheet after before
  pub plain : Plain core sheet after

-- The step about to be made goes on or communicates, writing only so, or stops for one of the allowed causes, which leaves all as it was (demand 1).
abbrev pub Next : List ℕ → List ℕ → State → Ended → Type 0
Next core sheet u (next v) = Writes core sheet v.core u.core
Next core sheet u (communicated v) = Writes core sheet v.core u.core
Next core sheet u (stopped n) = Allowed n

-- What holds of every state that a passed segment reaches.
pub record Stays (core sheet : List ℕ) (u : State) : Type 0 where
  -- it passes the checks 1, 2 and 3, so that a step from it is the syllable that `step` below speaks of
  pub checks : refusal_of u.core u.regs ≡ 0
  -- it fetches only its own code, as it was inspected
  pub from : code_of sheet ≤ u.regs.c
  pub below : u.regs.c < code_of sheet + code_words_of sheet
  pub code : (m : ℕ) → code_of sheet ≤ m → m < code_of sheet + code_words_of sheet → get_or u.core m 0 ≡ get_or core m 0
  -- the core keeps its length
  pub size : length u.core ≡ length core
  -- every word that the sheet does not name is the word that was inspected
  pub outside : SameOutside core sheet u.core core
  -- number cells and array words hold plain operands throughout
  pub plain : Plain core sheet u.core
  -- the stack: S stands on the stack words, and each word up to S, B and A if full, is plain or a place
  pub low : s_of sheet ≤ u.regs.s
  pub high : u.regs.s ≤ s_of sheet + room_of sheet
  pub stack : (m : ℕ) → s_of sheet < m → m ≤ u.regs.s → Stacked core sheet (get_or u.core m 0)
  pub b : u.regs.bfull ≡ true → Stacked core sheet u.regs.b
  pub a : u.regs.afull ≡ true → Stacked core sheet u.regs.a
  -- the next step
  pub step : Next core sheet u (execute_of u)
