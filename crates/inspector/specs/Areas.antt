-- The three areas that the sheet names, and rule 32.
use Rattle.std.specs.Prelude.{ℕ, zero, suc, ◌+◌, Bool, not, ◌&&◌, ◌||◌, List, ltb, length}
use Rattle.sheet.specs.Sheets.{code_of, code_words_of, s_of, room_of, r_of, table_of}
use Rattle.word.specs.Addresses.{table_start}

-- So many words from a start on.
pub record Area : Type 0 where
  pub start : ℕ
  pub count : ℕ

abbrev pub area : ℕ → ℕ → Area
area a n = record { start = a; count = n }

-- "code, stack words S+1 to S+d or table"
abbrev pub code_area : List ℕ → Area
code_area sheet = area (code_of sheet) (code_words_of sheet)

abbrev pub stack_area : List ℕ → Area
stack_area sheet = area (s_of sheet + 1) (room_of sheet)

abbrev pub table_area : List ℕ → Area
table_area sheet = area (table_start (r_of sheet)) (table_of sheet)

-- "outside core (S+d must be below core length)"
abbrev pub outside_core : List ℕ → Area → Bool
outside_core core x = ltb (length core) (x.start + x.count)

-- Two have a word in common.
abbrev pub meets : Area → Area → Bool
meets x y =
    ltb 0 x.count && ltb 0 y.count && ltb x.start (y.start + y.count) && ltb y.start (x.start + x.count)

-- "32, code, stack words S+1 to S+d or table outside core .., or two of them meeting; place, the lowest record outside or meeting an earlier one."
unfoldable pub astray : List ℕ → List ℕ → ℕ → Bool
astray core sheet zero = outside_core core (code_area sheet)
astray core sheet (suc zero) = outside_core core (stack_area sheet) || meets (stack_area sheet) (code_area sheet)
astray core sheet (suc (suc i)) =
    outside_core core (table_area sheet) || meets (table_area sheet) (code_area sheet) || meets (table_area sheet) (stack_area sheet)

-- "meeting none of those three"
abbrev pub clear_of : List ℕ → Area → Bool
clear_of sheet x = not (meets x (code_area sheet)) && not (meets x (stack_area sheet)) && not (meets x (table_area sheet))
