-- The number of a hand-out, check by check, and what a 0 says of the cell and the word in it.
use Prim.Native.Nat.{ℕ, suc, ◌+◌, ◌<◌, ◌≤◌}
use mathlib.Core.Path.{◌≡◌, refl}
use mathlib.Core.Bool.{Bool, true, false, not, ◌&&◌}
use mathlib.Core.List.{List}
use native.Mathlib.Omega.{arith}
use borrow.Author.Tests.{lt-ltb, le-ltb, eq-eqb, ne_eqb, ltb-true, leb-true, eqb-true}
use lib.Dec.{eqb, ltb, leb}
use lib.ListN.{length}
use Rattle.word.specs.Core.{length_fits, words_fit}
use Rattle.word.specs.Layout.{flag_of, presence_of, size_of, address_of, array_in}
use Rattle.word.specs.Field.{bit}
use Rattle.handout.specs.HandOut.{cell_word, cell_fits, hand_out_number, stretch_start, stretch_count}
use Rattle.word.specs.Choices.{if◌then◌otherwise◌}
use Rattle.word.specs.Addresses.{cell_address}

module _ (core : List ℕ) (r cell : ℕ) where
  pub number_r : length_fits core ≡ true → words_fit core ≡ true → 512 ≤ r → 3 ≡ hand_out_number core r cell
  unfolding hand_out_number if◌then◌otherwise◌
  number_r l w h = rw (l, w, le-ltb r 512 h)

  pub number_cell : length_fits core ≡ true → words_fit core ≡ true → r < 512 → 1024 ≤ cell → 3 ≡ hand_out_number core r cell
  unfolding hand_out_number if◌then◌otherwise◌
  number_cell l w h k = rw (l, w, lt-ltb r 512 h, le-ltb cell 1024 k)

  pub number_out : length_fits core ≡ true → words_fit core ≡ true → r < 512 → cell < 1024 → length core ≤ cell_address r cell → 36 ≡ hand_out_number core r cell
  unfolding hand_out_number cell_fits if◌then◌otherwise◌
  number_out l w h k o =
      rw (l, w, lt-ltb r 512 h, lt-ltb cell 1024 k, le-ltb (cell_address r cell) (length core) o)

  pub number_unfit : length_fits core ≡ true → words_fit core ≡ true → r < 512 → cell < 1024 → cell_address r cell < length core → array_in (length core) (cell_word core r cell) ≡ false
      → 36 ≡ hand_out_number core r cell
  unfolding hand_out_number cell_fits if◌then◌otherwise◌
  number_unfit l w h k o f =
      rw (l, w, lt-ltb r 512 h, lt-ltb cell 1024 k, lt-ltb (cell_address r cell) (length core) o, f)

  pub number_fits : length_fits core ≡ true → words_fit core ≡ true → r < 512 → cell < 1024 → cell_address r cell < length core → array_in (length core) (cell_word core r cell) ≡ true
      → 0 ≡ hand_out_number core r cell
  unfolding hand_out_number cell_fits if◌then◌otherwise◌
  number_fits l w h k o f =
      rw (l, w, lt-ltb r 512 h, lt-ltb cell 1024 k, lt-ltb (cell_address r cell) (length core) o, f)

-- A cell with number 0 is in core, and its word names some words, all in core.
pub record Named (core : List ℕ) (r cell : ℕ) : Type 0 where
  pub inside : cell_address r cell < length core
  pub some : 0 < size_of (cell_word core r cell)
  pub whole : address_of (cell_word core r cell) + size_of (cell_word core r cell) ≤ length core

no : {A : Type 0} (n : ℕ) → suc n ≡ 0 → A
no n e = absurd (omega arith)

module _ (core : List ℕ) (r cell : ℕ) where
  pub number_named : hand_out_number core r cell ≡ 0 → Named core r cell
  unfolding hand_out_number cell_fits array_in if◌then◌otherwise◌
  number_named e = by (length_fits core) (words_fit core) (ltb r 512 && ltb cell 1024) _ (flag_of (cell_word core r cell) && not (bit (cell_word core r cell) 1) && presence_of (cell_word core r cell)) _ _ refl refl refl e
    where
      by : (a b c d f g h : Bool) → ltb (cell_address r cell) (length core) ≡ d → ltb 0 (size_of (cell_word core r cell)) ≡ g → leb (address_of (cell_word core r cell) + size_of (cell_word core r cell)) (length core) ≡ h
          → ◌≡◌ {A = ℕ} (if a then (if b then (if c then (if d && (f && g && h) then 0 otherwise 36) otherwise 3) otherwise 2) otherwise 1) 0 → Named core r cell
      by true true true true true true true p q s e =
          record {
            inside = ltb-true (cell_address r cell) (length core) p;
            some = ltb-true 0 (size_of (cell_word core r cell)) q;
            whole = leb-true (address_of (cell_word core r cell) + size_of (cell_word core r cell)) (length core) s;
          }
      by true true true true true true false p q s e = no 35 e
      by true true true true true false h p q s e = no 35 e
      by true true true true false g h p q s e = no 35 e
      by true true true false f g h p q s e = no 35 e
      by true true false d f g h p q s e = no 2 e
      by true false c d f g h p q s e = no 1 e
      by false b c d f g h p q s e = no 0 e

  -- The start and the count of each case.
  pub start_given : hand_out_number core r cell ≡ 0 → address_of (cell_word core r cell) ≡ stretch_start core r cell
  unfolding stretch_start if◌then◌otherwise◌
  start_given e = rw (eq-eqb (hand_out_number core r cell) 0 e)

  pub count_given : hand_out_number core r cell ≡ 0 → size_of (cell_word core r cell) ≡ stretch_count core r cell
  unfolding stretch_count if◌then◌otherwise◌
  count_given e = rw (eq-eqb (hand_out_number core r cell) 0 e)

  pub start_none : (hand_out_number core r cell ≡ 0 → ⊥) → 0 ≡ stretch_start core r cell
  unfolding stretch_start if◌then◌otherwise◌
  start_none n = rw (ne_eqb (hand_out_number core r cell) 0 n)

  pub count_none : (hand_out_number core r cell ≡ 0 → ⊥) → 0 ≡ stretch_count core r cell
  unfolding stretch_count if◌then◌otherwise◌
  count_none n = rw (ne_eqb (hand_out_number core r cell) 0 n)

  -- A stretch lies wholly in core, the empty one too.
  pub within : stretch_start core r cell + stretch_count core r cell ≤ length core
  unfolding stretch_start stretch_count if◌then◌otherwise◌
  within = by _ refl
    where
      by : (b : Bool) → eqb (hand_out_number core r cell) 0 ≡ b → (if b then address_of (cell_word core r cell) otherwise 0) + (if b then size_of (cell_word core r cell) otherwise 0) ≤ length core
      by true e = (number_named (eqb-true (hand_out_number core r cell) 0 e)).whole
      by false e = omega arith
