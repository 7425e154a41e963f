-- The sheet: six-byte records, and what they name.
use Rattle.sheet.specs.declared.Entry.{Entry}
use Rattle.std.specs.Prelude.{ℕ, zero, suc, ◌+◌, ◌-◌, ◌*◌, ◌/◌, true, false, ◌&&◌, List, ltb, leb, length, get_or}

-- "Six-byte records: kind, 0, first (2 bytes), count (2 bytes), highest byte first."
abbrev pub entry_at : List ℕ → ℕ → Entry
entry_at sheet i =
    record {
      kind = get_or sheet (6 * i) 0;
      gap = get_or sheet (6 * i + 1) 0;
      first = 256 * get_or sheet (6 * i + 2) 0 + get_or sheet (6 * i + 3) 0;
      count = 256 * get_or sheet (6 * i + 4) 0 + get_or sheet (6 * i + 5) 0;
    }

abbrev pub entries : List ℕ → ℕ
entries sheet = length sheet / 6

-- "Record 0: kind 1, code words ..", "Record 1: kind 2, starting S and room d ..", "Record 2: kind 5, R and table length .."
abbrev pub code_of : List ℕ → ℕ
code_of sheet = (entry_at sheet 0).first

abbrev pub code_words_of : List ℕ → ℕ
code_words_of sheet = (entry_at sheet 0).count

abbrev pub s_of : List ℕ → ℕ
s_of sheet = (entry_at sheet 1).first

abbrev pub room_of : List ℕ → ℕ
room_of sheet = (entry_at sheet 1).count

abbrev pub r_of : List ℕ → ℕ
r_of sheet = (entry_at sheet 2).first

abbrev pub table_of : List ℕ → ℕ
table_of sheet = (entry_at sheet 2).count

-- What a cell is by the n records from i on: 3 a number cell, 4 an array cell, 0 closed.
abbrev pub cell_in : List ℕ → ℕ → ℕ → ℕ → ℕ
cell_in sheet zero i c = 0
cell_in sheet (suc n) i c =
    elim (leb (entry_at sheet i).first c && ltb c ((entry_at sheet i).first + (entry_at sheet i).count))
    [ true ↦ (entry_at sheet i).kind | false ↦ cell_in sheet n (suc i) c ]

-- "Other cells are closed."
unfoldable pub cell_of : List ℕ → ℕ → ℕ
cell_of sheet c = cell_in sheet (entries sheet - 3) 3 c
