-- "hand out the words an array cell names, as that stretch of the core itself"
use Rattle.std.specs.Prelude.{ℕ, ◌+◌, ◌*◌, ◌≡◌, Bool, ◌&&◌, List, eqb, ltb, length, get_or, take, drop}
use Rattle.std.specs.Borrow.{Bor}
use Rattle.word.specs.Choices.{if◌then◌otherwise◌}
use Rattle.word.specs.Addresses.{cell_address}
use Rattle.std.specs.declared.result.Result.{Result}
use Rattle.std.specs.declared.result.Result.TheVariants.{Ok, Err}
use Rattle.word.specs.Core.{length_fits, words_fit, core_error_number}
use Rattle.handout.specs.declared.Stretch.{Stretch}
use Rattle.handout.specs.declared.HandOutError.{HandOutError}
use Rattle.handout.specs.declared.HandOutError.TheVariants.{Core, Cell, Array}
use Rattle.word.specs.Layout.{size_of, address_of, array_in}

-- The word in an array cell.
abbrev pub cell_word : List ℕ → ℕ → ℕ → ℕ
cell_word core r cell = get_or core (cell_address r cell) 0

-- "36 unless the cell is in core and holds a present data descriptor of size over 0 wholly in core"
unfoldable pub cell_fits : List ℕ → ℕ → ℕ → Bool
cell_fits core r cell = ltb (cell_address r cell) (length core) && array_in (length core) (cell_word core r cell)

-- "checks 1, 2, 3 (R below 512, cell below 1,024), 36"
unfoldable pub hand_out_number : List ℕ → ℕ → ℕ → ℕ
hand_out_number core r cell =
    if length_fits core then
    (if words_fit core then (if ltb r 512 && ltb cell 1024 then (if cell_fits core r cell then 0 otherwise 36) otherwise 3) otherwise 2)
    otherwise 1

-- From the descriptor's address for its size; "each with an empty stretch".
unfoldable pub stretch_start : List ℕ → ℕ → ℕ → ℕ
stretch_start core r cell = if eqb (hand_out_number core r cell) 0 then address_of (cell_word core r cell) otherwise 0

unfoldable pub stretch_count : List ℕ → ℕ → ℕ → ℕ
stretch_count core r cell = if eqb (hand_out_number core r cell) 0 then size_of (cell_word core r cell) otherwise 0

unfoldable pub stretch_of : List ℕ → ℕ → ℕ → List ℕ
stretch_of core r cell = take (stretch_count core r cell) (drop (stretch_start core r cell) core)

-- "checks 1, 2, 3 (R below 512, cell below 1,024), 36"
abbrev pub hand_out_error_number : HandOutError → ℕ
hand_out_error_number (Core e) = core_error_number e
hand_out_error_number Cell = 3
hand_out_error_number Array = 36

-- The number, and where the words stand.
pub record Handed : Type 0 where
  pub number : ℕ
  pub start : ℕ
  pub count : ℕ

-- What an answer stands for; a refusal "with an empty stretch".
abbrev pub handed_by : Result Stretch HandOutError → Handed
handed_by (Ok s) = record { number = 0; start = s.start; count = s.count }
handed_by (Err e) = record { number = hand_out_error_number e; start = 0; count = 0 }

-- What it should be: the definitions above, side by side.
abbrev pub handed_of : List ℕ → ℕ → ℕ → Handed
handed_of core r cell = record { number = hand_out_number core r cell; start = stretch_start core r cell; count = stretch_count core r cell }

-- "that stretch of the core itself": not only those words, but where they stand, eight bytes a word.
pub record HandedOut (core part : Bor (List ℕ)) (r cell : ℕ) : Type 0 where
  pub words : part.now ≡ stretch_of core.now r cell
  pub place : part.ref_ptr ≡ (core.ref_ptr.0, stretch_start core.now r cell * 8 + core.ref_ptr.1)
