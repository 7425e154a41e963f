-- The names of syllables, by their operator numbers in the table of 4,096.
use Rattle.std.specs.Prelude.{ℕ, List, [], ◌∷◌, get_or, codes}
use Prim.Native.String.{String}

-- In the order of the operator numbers: none, the 36 operators, LITC, OPDC, DESC. A blank ends a name of three letters.
abbrev pub names : List String
names =
    "----" ∷
    "ADD " ∷ "SUB " ∷ "MUL " ∷ "IDV " ∷ "RDV " ∷
    "GTR " ∷ "GEQ " ∷ "EQL " ∷ "LEQ " ∷ "LSS " ∷ "NEQ " ∷
    "LND " ∷ "LOR " ∷ "LQV " ∷ "LNG " ∷
    "MOP " ∷ "MDS " ∷ "SSP " ∷ "SSN " ∷ "CHS " ∷ "TOP " ∷
    "XCH " ∷ "DUP " ∷ "DEL " ∷ "NOP " ∷
    "LOD " ∷ "STD " ∷ "SND " ∷
    "INX " ∷
    "BFW " ∷ "BBW " ∷ "BFC " ∷ "BBC " ∷
    "MKS " ∷ "XIT " ∷ "COM " ∷
    "LITC" ∷ "OPDC" ∷ "DESC" ∷
    []

-- A number past the table has the name of none.
unfoldable pub name_of : ℕ → List ℕ
name_of n = codes (get_or names n "----")
