-- How the code holds what the definitions speak of: areas, findings, the kinds of the cells, items, shapes and their marks.
use Rattle.std.specs.Prelude.{ℕ, zero, suc, ◌+◌, ◌≤◌, ◌<◌, ◌≡◌, true, false, List, [], ◌∷◌, eqb, length, get_or, drop}
use Rattle.std.specs.declared.option.Option.{Option}
use Rattle.std.specs.declared.option.Option.TheVariants.{Some, None}
use Rattle.inspector.specs.declared.areas.Area.{Area as HeldArea}
use Rattle.inspector.specs.declared.segments.Kind.{Kind}
use Rattle.inspector.specs.declared.segments.Kind.TheVariants.{Closed, Number as NumberCell, Array}
use Rattle.inspector.specs.declared.shapes.Item.{Item as HeldItem}
use Rattle.inspector.specs.declared.shapes.Item.TheVariants.{Literal, Number, Place}
use Rattle.inspector.specs.declared.shapes.Mark.{Mark}
use Rattle.inspector.specs.declared.shapes.Mark.TheVariants.{Empty, Literal as LiteralOnTop, Other}
use Rattle.inspector.specs.Areas.{Area, area}
use Rattle.inspector.specs.Verdicts.{Verdict, Found, at, nowhere, answer_of, rules}
use Rattle.sheet.specs.Sheets.{entry_at, entries, code_of, code_words_of, room_of, cell_of}
use Rattle.inspector.specs.Scan.{Item, literal, number, place, Shape, Left, leaves, breaks, within, shape_at, breaks_at}

abbrev pub area_of : HeldArea → Area
area_of x = area x.start x.count

abbrev pub found_of : Option ℕ → Found
found_of (Some p) = at p
found_of None = nowhere

-- What rule 31 leaves of the records.
pub record SheetRanged (sheet : List ℕ) : Type 0 where
  pub least : 3 ≤ entries sheet
  pub most : entries sheet ≤ 1027
  pub start : code_of sheet ≤ 32767
  pub words : code_words_of sheet ≤ 1024
  pub room : room_of sheet ≤ 1024
  pub cells : (i : ℕ) → 3 ≤ i → i < entries sheet → (entry_at sheet i).first + (entry_at sheet i).count ≤ 1024

-- The kind of the cells that a record of a kind names.
unfoldable pub kind_told : ℕ → Kind
kind_told k = elim (eqb k 3) [ true ↦ NumberCell | false ↦ elim (eqb k 4) [ true ↦ Array | false ↦ Closed ] ]

-- The list holds the kind of every cell.
pub record Kinds (kinds : List Kind) (sheet : List ℕ) : Type 0 where
  pub kind : (c : ℕ) → get_or kinds c Closed ≡ kind_told (cell_of sheet c)

abbrev pub item_of : HeldItem → Item
item_of (Literal k) = literal k
item_of Number = number
item_of Place = place

-- The shape of the h first items of a list, the last of them its top.
abbrev pub stacked : List HeldItem → ℕ → Shape
stacked items zero = []
stacked items (suc h) = item_of (get_or items h (Literal 0)) ∷ stacked items h

-- A shape, and the most items that it has room for.
pub record Held : Type 0 where
  pub items : Shape
  pub room : ℕ

-- The item that is taken off, and what is left below it.
abbrev pub taken : Option HeldItem → Shape → Shape
taken (Some x) xs = item_of x ∷ xs
taken None xs = []

pub record Popped (old : Held) (r : Option HeldItem) (new : Held) : Type 0 where
  pub items : old.items ≡ taken r new.items
  pub rest : new.items ≡ drop 1 old.items
  pub room : new.room ≡ old.room
  pub fits : length new.items ≤ new.room

-- The shape becomes what a definition leaves of it, or the scan breaks.
abbrev pub shape_left : Option (Unit {0}) → Shape → Left
shape_left (Some x) xs = leaves xs
shape_left None xs = breaks

pub record Turned (f : Shape → Left) (old : Held) (r : Option (Unit {0})) (new : Held) : Type 0 where
  pub left : shape_left r new.items ≡ within old.room (f old.items)
  pub room : new.room ≡ old.room

-- The scan's shape before syllable i.
pub record Before (core sheet : List ℕ) (i : ℕ) (held : Held) : Type 0 where
  pub shape : shape_at core sheet i ≡ leaves held.items
  pub room : held.room ≡ room_of sheet

-- The mark of a shape.
abbrev pub mark_told : Shape → Mark
mark_told [] = Empty
mark_told (literal k ∷ xs) = LiteralOnTop k
mark_told (number ∷ xs) = Other
mark_told (place ∷ xs) = Other

abbrev pub mark_at : Left → Mark
mark_at (leaves xs) = mark_told xs
mark_at breaks = Other

-- The marks of the shapes before the first n syllables.
pub record Marked (marks : List Mark) (core sheet : List ℕ) (n : ℕ) : Type 0 where
  pub mark : (i : ℕ) → i < n → get_or marks i Empty ≡ mark_at (shape_at core sheet i)

-- None of the first n syllables breaks the scan.
pub record Passed (core sheet : List ℕ) (n : ℕ) : Type 0 where
  pub passed : (i : ℕ) → i < n → breaks_at core sheet i ≡ false

-- The answer of the rules from 31 and from 34 on.
abbrev pub records_of : List ℕ → List ℕ → Verdict
records_of core sheet = answer_of (drop 3 (rules core sheet))

abbrev pub flow_of : List ℕ → List ℕ → Verdict
flow_of core sheet = answer_of (drop 6 (rules core sheet))
