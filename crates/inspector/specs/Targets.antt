-- Rule 35: the branches' targets.
use Rattle.std.specs.Prelude.{ℕ, ◌+◌, ◌-◌, ◌*◌, Bool, true, false, not, ◌&&◌, List, [], ◌∷◌, ltb, leb}
use Rattle.sheet.specs.Sheets.{code_of, code_words_of}
use Rattle.inspector.specs.Scan.{literal, number, place, Left, leaves, breaks, syllable_at, shape_at}
use Rattle.machine.specs.Outcomes.{Res, on, halt}
use Rattle.machine.specs.Branches.{landing_of}
use Rattle.inspector.specs.Turns.{Turn, branches, communicates, neither, turn_of}
use Rattle.syllable.specs.declared.Branch.TheVariants.{Bfw, Bbw, Bfc, Bbc}
use Rattle.syllable.specs.Positions.{next_of}

abbrev pub is_empty : Left → Bool
is_empty (leaves []) = true
is_empty (leaves (x ∷ xs)) = false
is_empty breaks = false

-- A syllable of the code, by its number in core, with an empty shape before it.
abbrev pub lands : List ℕ → List ℕ → ℕ → Bool
lands core sheet t =
    leb (4 * code_of sheet) t && ltb t (4 * (code_of sheet + code_words_of sheet)) && is_empty (shape_at core sheet (t - 4 * code_of sheet))

-- "a branch on a literal": how far it goes.
abbrev pub distance : Left → ℕ
distance (leaves (literal k ∷ xs)) = k
distance (leaves (number ∷ xs)) = 0
distance (leaves (place ∷ xs)) = 0
distance (leaves []) = 0
distance breaks = 0

abbrev pub misses_at : List ℕ → List ℕ → Res ℕ → Bool
misses_at core sheet (on t) = not (lands core sheet t)
misses_at core sheet (halt n) = true

-- "counted as the machine counts it"
abbrev pub misses : List ℕ → List ℕ → ℕ → Bool → Bool
misses core sheet i back =
    misses_at core sheet (landing_of back (next_of (4 * code_of sheet + i)) (distance (shape_at core sheet i)))

abbrev pub turn_misses : List ℕ → List ℕ → ℕ → Turn → Bool
turn_misses core sheet i (branches Bfw) = misses core sheet i false
turn_misses core sheet i (branches Bbw) = misses core sheet i true
turn_misses core sheet i (branches Bfc) = misses core sheet i false
turn_misses core sheet i (branches Bbc) = misses core sheet i true
turn_misses core sheet i communicates = false
turn_misses core sheet i neither = false

-- "35, lowest branch whose target, counted as the machine counts it, is outside the code or has a shape not empty."
unfoldable pub misses_target : List ℕ → List ℕ → ℕ → Bool
misses_target core sheet i = turn_misses core sheet i (turn_of (syllable_at core sheet i))
