-- Rule 34: the scan, an abstract run over shapes.
use Rattle.std.specs.Prelude.{ℕ, zero, suc, ◌+◌, ◌*◌, ◌/◌, ◌%◌, Bool, true, false, not, ◌&&◌, ◌||◌, List, [], ◌∷◌, eqb, leb, length, get_or}
use Rattle.sheet.specs.Sheets.{code_of, code_words_of, room_of, cell_of}
use Rattle.syllable.specs.declared.Logic.{Logic as LogicGroup}
use Rattle.syllable.specs.declared.Logic.TheVariants.{Lnd, Lor, Lqv, Lng}
use Rattle.syllable.specs.declared.Branch.{Branch as BranchGroup}
use Rattle.syllable.specs.declared.Branch.TheVariants.{Bfw, Bbw, Bfc, Bbc}
use Rattle.syllable.specs.declared.Operator.{Operator}
use Rattle.syllable.specs.declared.Operator.TheVariants.{Arithmetic, Relation, Logic, Branch, Mop, Mds, Ssp, Ssn, Chs, Top, Xch, Dup, Del, Nop, Lod, Std, Snd, Inx, Mks, Xit, Com, NotBuilt}
use Rattle.syllable.specs.declared.Syllable.{Syllable}
use Rattle.syllable.specs.declared.Syllable.TheVariants.{Litc, Opdc, Desc, Operator as Operates}
use Rattle.syllable.specs.Decoding.{decode_of}
use Rattle.syllable.specs.Positions.{syllable_of}
use Rattle.inspector.specs.Turns.{Turn, branches, communicates, neither, turn_of}
use Rattle.word.specs.Choices.{if◌then◌otherwise◌}

-- "items are literal k, number, place"; the top of a shape stands first.
pub data Item : Type 0 where
  literal : ℕ → Item
  number : Item
  place : Item

abbrev pub Shape : Type 0
Shape = List Item

-- What a syllable leaves, or that it breaks the scan.
pub data Left : Type 0 where
  leaves : Shape → Left
  breaks : Left

abbrev pub when : Bool → Shape → Left
when true xs = leaves xs
when false xs = breaks

-- "a literal or number"
abbrev pub value : Item → Bool
value (literal k) = true
value number = true
value place = false

-- "at a place or a literal naming a number cell"
abbrev pub writable : List ℕ → Item → Bool
writable sheet (literal k) = eqb (cell_of sheet k) 3
writable sheet number = false
writable sheet place = true

-- A call of cell k gives an item: "of a number cell, or of an array cell over a literal or number".
abbrev pub called_over : ℕ → Item → Shape → Left
called_over cell x [] = when (eqb cell 3) (x ∷ [])
called_over cell x (i ∷ xs) =
    if eqb cell 3 then leaves (x ∷ i ∷ xs) otherwise when (eqb cell 4 && value i) (x ∷ xs)

-- "over literals or numbers (all give numbers)": two items, one item.
abbrev pub two_values : Shape → Left
two_values [] = breaks
two_values (a ∷ []) = breaks
two_values (a ∷ b ∷ xs) = when (value a && value b) (number ∷ xs)

abbrev pub one_value : Shape → Left
one_value [] = breaks
one_value (a ∷ xs) = when (value a) (number ∷ xs)

-- "TOP and SND keep the word they test or store"
abbrev pub tested : Shape → Left
tested [] = breaks
tested (b ∷ xs) = when (value b) (number ∷ b ∷ xs)

-- "XCH, DUP, DEL on anything"
abbrev pub exchanged : Shape → Left
exchanged [] = breaks
exchanged (a ∷ []) = breaks
exchanged (a ∷ b ∷ xs) = leaves (b ∷ a ∷ xs)

abbrev pub doubled : Shape → Left
doubled [] = breaks
doubled (a ∷ xs) = leaves (a ∷ a ∷ xs)

abbrev pub deleted : Shape → Left
deleted [] = breaks
deleted (a ∷ xs) = leaves xs

-- "LOD, STD, SND at a place or a literal naming a number cell, the stored word a literal or number"
abbrev pub loaded : List ℕ → Shape → Left
loaded sheet [] = breaks
loaded sheet (a ∷ xs) = when (writable sheet a) (number ∷ xs)

abbrev pub stored : List ℕ → Bool → Shape → Left
stored sheet keep [] = breaks
stored sheet keep (a ∷ []) = breaks
stored sheet true (a ∷ b ∷ xs) = when (writable sheet a && value b) (b ∷ xs)
stored sheet false (a ∷ b ∷ xs) = when (writable sheet a && value b) xs

-- "a branch on a literal (condition literal or number) leaving an empty shape"
abbrev pub branched : Shape → Left
branched [] = breaks
branched (literal k ∷ []) = leaves []
branched (literal k ∷ b ∷ xs) = breaks
branched (number ∷ xs) = breaks
branched (place ∷ xs) = breaks

abbrev pub branched_if : Shape → Left
branched_if [] = breaks
branched_if (literal k ∷ []) = breaks
branched_if (literal k ∷ b ∷ []) = when (value b) []
branched_if (literal k ∷ b ∷ c ∷ xs) = breaks
branched_if (number ∷ xs) = breaks
branched_if (place ∷ xs) = breaks

-- "COM on one literal or number with cell 9 a number cell, leaving an empty shape"
abbrev pub communicated : List ℕ → Shape → Left
communicated sheet [] = breaks
communicated sheet (a ∷ []) = when (value a && eqb (cell_of sheet 9) 3) []
communicated sheet (a ∷ b ∷ xs) = breaks

abbrev pub logic_left : LogicGroup → Shape → Left
logic_left Lnd xs = two_values xs
logic_left Lor xs = two_values xs
logic_left Lqv xs = two_values xs
logic_left Lng xs = one_value xs

abbrev pub branch_left : BranchGroup → Shape → Left
branch_left Bfw xs = branched xs
branch_left Bbw xs = branched xs
branch_left Bfc xs = branched_if xs
branch_left Bbc xs = branched_if xs

-- "A syllable may be": what each operator leaves of a shape.
abbrev pub operator_left : List ℕ → Operator → Shape → Left
operator_left sheet (Arithmetic o) xs = two_values xs
operator_left sheet (Relation o) xs = two_values xs
operator_left sheet (Logic o) xs = logic_left o xs
operator_left sheet (Branch o) xs = branch_left o xs
operator_left sheet Mop xs = one_value xs
operator_left sheet Mds xs = breaks
operator_left sheet Ssp xs = one_value xs
operator_left sheet Ssn xs = one_value xs
operator_left sheet Chs xs = one_value xs
operator_left sheet Top xs = tested xs
operator_left sheet Xch xs = exchanged xs
operator_left sheet Dup xs = doubled xs
operator_left sheet Del xs = deleted xs
operator_left sheet Nop xs = leaves xs
operator_left sheet Lod xs = loaded sheet xs
operator_left sheet Std xs = stored sheet false xs
operator_left sheet Snd xs = stored sheet true xs
operator_left sheet Inx xs = breaks
operator_left sheet Mks xs = breaks
operator_left sheet Xit xs = breaks
operator_left sheet Com xs = communicated sheet xs
operator_left sheet (NotBuilt k) xs = breaks

-- "OPDC and LOD give a number, DESC a place"
abbrev pub syllable_left : List ℕ → Syllable → Shape → Left
syllable_left sheet (Litc k) xs = leaves (literal k ∷ xs)
syllable_left sheet (Opdc k) xs = called_over (cell_of sheet k) number xs
syllable_left sheet (Desc k) xs = called_over (cell_of sheet k) place xs
syllable_left sheet (Operates o) xs = operator_left sheet o xs

-- "Too few items, or more than d, breaks."
abbrev pub within : ℕ → Left → Left
within room (leaves xs) = when (leb (length xs) room) xs
within room breaks = breaks

-- The i-th syllable of the code, counted from 0.
abbrev pub syllable_at : List ℕ → List ℕ → ℕ → Syllable
syllable_at core sheet i = decode_of (syllable_of (get_or core (code_of sheet + i / 4) 0) (i % 4))

-- "Shapes start empty": the shape before syllable i.
abbrev pub carried : Left → (Shape → Left) → Left
carried (leaves xs) f = f xs
carried breaks f = breaks

unfoldable pub shape_at : List ℕ → List ℕ → ℕ → Left
shape_at core sheet zero = leaves []
shape_at core sheet (suc i) = carried (shape_at core sheet i) (λ xs. within (room_of sheet) (syllable_left sheet (syllable_at core sheet i) xs))

abbrev pub broken : Left → Bool
broken (leaves xs) = false
broken breaks = true

-- "The last syllable is COM, BFW or BBW."
abbrev pub closes : Turn → Bool
closes (branches Bfw) = true
closes (branches Bbw) = true
closes (branches Bfc) = false
closes (branches Bbc) = false
closes communicates = true
closes neither = false

-- "34, first syllable breaking the scan."
unfoldable pub breaks_at : List ℕ → List ℕ → ℕ → Bool
breaks_at core sheet i =
    broken (shape_at core sheet (suc i)) || (eqb (suc i) (4 * code_words_of sheet) && not (closes (turn_of (syllable_at core sheet i))))
