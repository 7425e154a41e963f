-- Rule 33 as the code takes it: an array's words as its part of the core, and a cell by its kind.
use Prim.Native.Nat.{ℕ, zero, suc, ◌+◌, ◌≤◌, ◌<◌}
use mathlib.Core.Path.{◌≡◌, refl, sym, ◌∙◌, ap}
use mathlib.Core.Bool.{Bool, true, false, not, ◌&&◌, or-false, false≢true}
use mathlib.Core.List.{List, [], ◌∷◌}
use native.Mathlib.Omega.{arith}
use borrow.Author.Tests.{eqb-true, leb-true}
use lib.Dec.{eqb}
use lib.ListN.{length, get_or, take, drop}
use Rattle.std.specs.List.{list_all}
use Rattle.inspector.specs.declared.segments.Kind.{Kind}
use Rattle.inspector.specs.declared.segments.Kind.TheVariants.{Closed, Number as NumberCell, Array}
use Rattle.sheet.specs.Sheets.{r_of, cell_of}
use Rattle.inspector.specs.Cells.{plain_words, array_fits, unfit}
use Rattle.inspector.specs.ForCode.Forms.{kind_told}
use Rattle.inspector.proofs.Paints.{is_number, is_array, is_closed}
use Rattle.word.specs.Addresses.{cell_address}
use Rattle.word.specs.Layout.{flag_of, size_of, address_of, array_in}

-- What stands at a, and the rest.
drop_some : (core : List ℕ) (a : ℕ) → a < length core → drop a core ≡ (get_or core a 0 ∷ drop (suc a) core)
drop_some [] a h = absurd (omega arith)
drop_some (w ∷ ws) zero h = refl
drop_some (w ∷ ws) (suc a) h = drop_some ws a (omega arith)

-- An array's words are those of its part of the core.
pub part_plain : (core : List ℕ) (a n : ℕ) → a + n ≤ length core → list_all (λ w. not (flag_of w)) (take n (drop a core)) ≡ plain_words core a n
unfolding plain_words
part_plain core a zero h = refl
part_plain core a (suc n) h =
    rw (drop_some core a (omega arith)) (ap (λ r. not (flag_of (get_or core a 0)) && r) (part_plain core (suc a) n (omega arith)))

-- An array in core ends there.
pub in_core : (len w : ℕ) → array_in len w ≡ true → address_of w + size_of w ≤ len
unfolding array_in
in_core len w e = leb-true _ _ (last _ _ e)
  where
    last : (x y : Bool) → (x && y) ≡ true → y ≡ true
    last true y h = h
    last false y h = absurd (false≢true h)

-- A cell's rule by its kind.
module _ (core sheet : List ℕ) (c w : ℕ) (kind : Kind) (k : kind ≡ kind_told (cell_of sheet c)) (e : w ≡ get_or core (cell_address (r_of sheet) c) 0) where
  pub unfit_number : kind ≡ NumberCell → flag_of w ≡ unfit core sheet c
  unfolding unfit
  unfit_number n =
      let a : cell_of sheet c ≡ 3 = eqb-true (cell_of sheet c) 3 (is_number (cell_of sheet c) (sym n ∙ k)) in
      rw (e, a) (sym (or-false (flag_of (get_or core (cell_address (r_of sheet) c) 0))))

  pub unfit_array : kind ≡ Array → not (array_fits core sheet w) ≡ unfit core sheet c
  unfolding unfit
  unfit_array n =
      let p : (eqb (cell_of sheet c) 3 ≡ false) × (eqb (cell_of sheet c) 4 ≡ true) = is_array (cell_of sheet c) (sym n ∙ k) in
      rw (e, p.0, p.1)

  pub unfit_closed : kind ≡ Closed → false ≡ unfit core sheet c
  unfolding unfit
  unfit_closed n =
      let p : (eqb (cell_of sheet c) 3 ≡ false) × (eqb (cell_of sheet c) 4 ≡ false) = is_closed (cell_of sheet c) (sym n ∙ k) in
      rw (p.0, p.1)
