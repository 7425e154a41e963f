-- Where a sheet's refusal points to.
use Rattle.std.specs.Prelude.{ℕ, ◌+◌, ◌/◌, ◌%◌, List, eqb, ltb}
use Rattle.word.specs.Choices.{if◌then◌otherwise◌}
use Rattle.sheet.specs.Sheets.{entry_at, code_of}
use Rattle.wording.specs.declared.places.CodePlace.{CodePlace}
use Rattle.wording.specs.declared.places.RecordKind.{RecordKind}
use Rattle.wording.specs.declared.places.RecordKind.TheVariants.{Code, Start, Numbers, Arrays, Table, Other}

-- "Four in a word, L=0 leftmost"; "syllables count from 0"
abbrev pub code_place_of : List ℕ → ℕ → CodePlace
code_place_of sheet place = record { word = code_of sheet + place / 4; syllable = place % 4 }

-- "Record 0: kind 1 .. Record 1: kind 2 .. Record 2: kind 5 .. Then kind 3 number cells or kind 4 array cells". A sheet has at most 1,027 records.
unfoldable pub record_kind_of : List ℕ → ℕ → ℕ
record_kind_of sheet place =
    if eqb place 0 then 1
    otherwise if eqb place 1 then 2
    otherwise if eqb place 2 then 5
    otherwise if ltb place 1027 then (entry_at sheet place).kind otherwise 0

-- "kind 1, code words", "kind 2, starting S and room", "kind 3 number cells or kind 4 array cells", "kind 5, R and table length"
abbrev pub kind_number : RecordKind → ℕ
kind_number Code = 1
kind_number Start = 2
kind_number Numbers = 3
kind_number Arrays = 4
kind_number Table = 5
kind_number (Other k) = k

-- The kind with a number, a kind of the paper's wherever it is one.
unfoldable pub kind_by : ℕ → RecordKind
kind_by k =
    if eqb k 1 then Code
    otherwise if eqb k 2 then Start
    otherwise if eqb k 3 then Numbers
    otherwise if eqb k 4 then Arrays
    otherwise if eqb k 5 then Table otherwise Other k
