-- Rules 30 and 31: the sheet's length and its records.
use Rattle.std.specs.Prelude.{ℕ, zero, suc, ◌+◌, ◌%◌, Bool, ◌&&◌, ◌||◌, List, eqb, ltb, leb, length}
use Rattle.sheet.specs.declared.Entry.{Entry}
use Rattle.sheet.specs.Sheets.{entry_at, entries, table_of}

-- "30, length not 6 times 3 to 1,027."
unfoldable pub sheet_fits : List ℕ → Bool
sheet_fits sheet = eqb (length sheet % 6) 0 && leb 3 (entries sheet) && leb (entries sheet) 1027

-- A record of a kind, its byte 1 being 0, with first and count in their ranges.
abbrev pub ranged : ℕ → ℕ → ℕ → ℕ → Entry → Bool
ranged kind first_most least most e =
    eqb e.kind kind && eqb e.gap 0 && leb e.first first_most && leb least e.count && leb e.count most

-- "Then kind 3 number cells or kind 4 array cells: first cell, count over 0, within the table, rising, not overlapping."
-- The cells before `floor` are taken.
abbrev pub cells_good : ℕ → ℕ → Entry → Bool
cells_good table floor e =
    (eqb e.kind 3 || eqb e.kind 4) && eqb e.gap 0 && ltb 0 e.count && leb (e.first + e.count) table && leb floor e.first

-- Where the cells of the record before the j-th cell record end.
abbrev pub floor_of : List ℕ → ℕ → ℕ
floor_of sheet zero = 0
floor_of sheet (suc j) = (entry_at sheet (3 + j)).first + (entry_at sheet (3 + j)).count

-- "count 1 to 1,024", "room d, 0 to 1,023", "table length, 64 to 1,024"; "First of a place is at most 32,767; R at most 511."
unfoldable pub record_good : List ℕ → ℕ → Bool
record_good sheet zero = ranged 1 32767 1 1024 (entry_at sheet 0)
record_good sheet (suc zero) = ranged 2 32767 0 1023 (entry_at sheet 1)
record_good sheet (suc (suc zero)) = ranged 5 511 64 1024 (entry_at sheet 2)
record_good sheet (suc (suc (suc j))) = cells_good (table_of sheet) (floor_of sheet j) (entry_at sheet (3 + j))
