-- Rule 33: the named cells.
use Rattle.std.specs.Prelude.{ℕ, zero, suc, Bool, true, not, ◌&&◌, ◌||◌, List, eqb, length, get_or}
use Rattle.sheet.specs.Sheets.{r_of, cell_of}
use Rattle.inspector.specs.Areas.{area, clear_of}
use Rattle.word.specs.Layout.{flag_of, size_of, address_of, array_in}
use Rattle.word.specs.Addresses.{cell_address}

-- All n words from a on have their flag off.
unfoldable pub plain_words : List ℕ → ℕ → ℕ → Bool
plain_words core a zero = true
plain_words core a (suc n) = not (flag_of (get_or core a 0)) && plain_words core (suc a) n

-- "an array cell holds a present data descriptor, size over 0, area in core, meeting none of those three, all its words flag off"
unfoldable pub array_fits : List ℕ → List ℕ → ℕ → Bool
array_fits core sheet d =
    array_in (length core) d && clear_of sheet (area (address_of d) (size_of d)) && plain_words core (address_of d) (size_of d)

-- "33, lowest named cell unfit: a number cell has its flag off"
unfoldable pub unfit : List ℕ → List ℕ → ℕ → Bool
unfit core sheet c =
    (eqb (cell_of sheet c) 3 && flag_of (get_or core (cell_address (r_of sheet) c) 0))
    || (eqb (cell_of sheet c) 4 && not (array_fits core sheet (get_or core (cell_address (r_of sheet) c) 0)))
