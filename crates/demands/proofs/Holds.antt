-- What holds of a state that a passed segment reaches: its stack matches a shape, word by item.
use Prim.Native.Nat.{ℕ, ◌+◌, ◌-◌, ◌*◌, ◌≤◌, ◌<◌}
use mathlib.Core.Path.{◌≡◌}
use mathlib.Core.Bool.{Bool, true, false}
use mathlib.Core.List.{List, [], ◌∷◌}
use lib.ListN.{length, get_or}
use Rattle.word.specs.Layout.{flag_of}
use Rattle.machine.specs.States.{State}
use Rattle.sheet.specs.Sheets.{s_of, room_of, r_of}
use Rattle.inspector.specs.Scan.{Item, literal, number, place, Shape}
use Rattle.demands.specs.Stays.{Place, SameOutside, Plain}

-- A word matches an item.
pub data Fits (core sheet : List ℕ) : Item → ℕ → Type 0 where
  is : {k : ℕ} → k < 1024 → Fits core sheet (literal k) k
  plain : {w : ℕ} → flag_of w ≡ false → Fits core sheet number w
  points : {w : ℕ} → Place core sheet w → Fits core sheet place w

-- The words of the stack in core, from S down to the starting S, match a shape.
abbrev pub Under : List ℕ → List ℕ → List ℕ → ℕ → Shape → Type 0
Under core sheet l s [] = s ≡ s_of sheet
Under core sheet l s (x ∷ xs) = (s_of sheet < s) × Fits core sheet x (get_or l s 0) × Under core sheet l (s - 1) xs

-- A register, full or empty, has the top of a shape, or nothing of it.
pub data Register (core sheet : List ℕ) : Bool → ℕ → Shape → Shape → Type 0 where
  full : {w : ℕ} {x : Item} {xs : Shape} → Fits core sheet x w → Register core sheet true w (x ∷ xs) xs
  empty : {w : ℕ} {xs : Shape} → Register core sheet false w xs xs

-- B and the stack in core match a shape.
pub record Rest (core sheet l : List ℕ) (bfull : Bool) (b s : ℕ) (xs : Shape) : Type 0 where
  pub low : Shape
  pub top : Register core sheet bfull b xs low
  pub under : Under core sheet l s low

-- A core on the way: as long as the inspected one, the same outside what the sheet names, numbers and arrays plain.
pub record Kept (core sheet l : List ℕ) : Type 0 where
  pub size : length l ≡ length core
  pub same : SameOutside core sheet l core
  pub plain : Plain core sheet l

-- The registers that stay, and the place p in core of the next syllable.
pub record Set (sheet : List ℕ) (p r : ℕ) (salf : Bool) (c l : ℕ) : Type 0 where
  pub table : r ≡ r_of sheet
  pub level : salf ≡ false
  pub place : 4 * c + l ≡ p
  pub low : l < 4

abbrev pub RestOf : List ℕ → List ℕ → Shape → State → Type 0
RestOf core sheet xs st = Rest core sheet st.core st.regs.bfull st.regs.b st.regs.s xs

-- The whole stack of a state matches a shape, of at most d items.
pub record At (core sheet : List ℕ) (p : ℕ) (xs : Shape) (st : State) : Type 0 where
  pub kept : Kept core sheet st.core
  pub set : Set sheet p st.regs.r st.regs.salf st.regs.c st.regs.l
  pub room : length xs ≤ room_of sheet
  pub mid : Shape
  pub top : Register core sheet st.regs.afull st.regs.a xs mid
  pub rest : RestOf core sheet mid st

-- A is empty, and B and core have the shape.
pub record EmptyA (core sheet : List ℕ) (p : ℕ) (xs : Shape) (st : State) : Type 0 where
  pub kept : Kept core sheet st.core
  pub set : Set sheet p st.regs.r st.regs.salf st.regs.c st.regs.l
  pub off : st.regs.afull ≡ false
  pub rest : RestOf core sheet xs st

-- A is full with the top of the shape.
pub record FullA (core sheet : List ℕ) (p : ℕ) (x : Item) (xs : Shape) (st : State) : Type 0 where
  pub kept : Kept core sheet st.core
  pub set : Set sheet p st.regs.r st.regs.salf st.regs.c st.regs.l
  pub on : st.regs.afull ≡ true
  pub a : Fits core sheet x st.regs.a
  pub rest : RestOf core sheet xs st

-- Another state has the same A.
pub record SameA (o st : State) : Type 0 where
  pub full : st.regs.afull ≡ o.regs.afull
  pub a : st.regs.a ≡ o.regs.a

-- B is empty, and core has the shape; A as it was.
pub record EmptyB (core sheet : List ℕ) (p : ℕ) (o : State) (xs : Shape) (st : State) : Type 0 where
  pub kept : Kept core sheet st.core
  pub set : Set sheet p st.regs.r st.regs.salf st.regs.c st.regs.l
  pub was : SameA o st
  pub off : st.regs.bfull ≡ false
  pub under : Under core sheet st.core st.regs.s xs

-- B is full with the top of the shape; A as it was.
pub record FullB (core sheet : List ℕ) (p : ℕ) (o : State) (y : Item) (ys : Shape) (st : State) : Type 0 where
  pub kept : Kept core sheet st.core
  pub set : Set sheet p st.regs.r st.regs.salf st.regs.c st.regs.l
  pub was : SameA o st
  pub on : st.regs.bfull ≡ true
  pub b : Fits core sheet y st.regs.b
  pub under : Under core sheet st.core st.regs.s ys

-- Both are full.
pub record Both (core sheet : List ℕ) (p : ℕ) (x y : Item) (xs : Shape) (st : State) : Type 0 where
  pub kept : Kept core sheet st.core
  pub set : Set sheet p st.regs.r st.regs.salf st.regs.c st.regs.l
  pub a_on : st.regs.afull ≡ true
  pub b_on : st.regs.bfull ≡ true
  pub a : Fits core sheet x st.regs.a
  pub b : Fits core sheet y st.regs.b
  pub under : Under core sheet st.core st.regs.s xs
