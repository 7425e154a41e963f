-- A shape as the items of an array up to a height: taking an item off it, and putting one on.
use Prim.Native.Nat.{ℕ, zero, suc, ◌+◌, ◌≤◌, ◌<◌}
use mathlib.Core.Path.{◌≡◌, refl, sym, ◌∙◌, ap, subst}
use mathlib.Core.Bool.{true, false}
use mathlib.Core.List.{List, [], ◌∷◌}
use native.Mathlib.Omega.{arith}
use borrow.Author.Tests.{le-leb, lt-leb}
use lib.Dec.{eqb}
use lib.ListN.{length, get_or, set}
use lib.Seq.{get_or-set_same, get_or-set_other}
use Rattle.std.specs.declared.option.Option.TheVariants.{Some, None}
use Rattle.inspector.specs.declared.shapes.Item.{Item as HeldItem}
use Rattle.inspector.specs.declared.shapes.Item.TheVariants.{Literal}
use Rattle.inspector.specs.declared.segments.Kind.{Kind}
use Rattle.inspector.specs.declared.segments.Kind.TheVariants.{Closed, Number as NumberCell, Array}
use Rattle.inspector.specs.Scan.{Item, Shape, leaves, breaks, when, value, called_over, within}
use Rattle.inspector.proofs.Paints.{is_number, is_array, is_closed}
use Rattle.inspector.specs.ForCode.Forms.{item_of, kind_told, stacked, Held, Popped, Turned}
use Rattle.word.specs.Choices.{if◌then◌otherwise◌}

pub length_stacked : (items : List HeldItem) (h : ℕ) → length (stacked items h) ≡ h
length_stacked items zero = refl
length_stacked items (suc h) = ap suc (length_stacked items h)

-- A write at or over the height is not seen.
stacked_set : (items : List HeldItem) (h j : ℕ) (x : HeldItem) → h ≤ j → stacked (set items j x) h ≡ stacked items h
stacked_set items zero j x l = refl
stacked_set items (suc h) j x l =
    let n : h ≡ j → ⊥ = λ e. omega arith in
    rw (get_or-set_other items j h x (Literal 0) n, stacked_set items h j x (omega arith))

stacked_put : (items : List HeldItem) (h : ℕ) (x : HeldItem) → h < length items → stacked (set items h x) (h + 1) ≡ item_of x ∷ stacked items h
stacked_put items h x l =
    let k : h + 1 ≡ suc h = omega arith in
    rw (k, get_or-set_same items h x (Literal 0) l, stacked_set items h h x (omega arith))

pub within_yes : (room : ℕ) (xs : Shape) → length xs ≤ room → leaves xs ≡ within room (leaves xs)
within_yes room xs h = rw (le-leb (length xs) room h)

pub within_no : (room : ℕ) (xs : Shape) → room < length xs → breaks ≡ within room (leaves xs)
within_no room xs h = rw (lt-leb (length xs) room h)

module _ (items : List HeldItem) (h room : ℕ) (old : Held) (v : record { items = stacked items h; room = room } ≡ old) (l : h ≤ room) where
  pub popped : (n : ℕ) → h ≡ suc n → Popped old (Some (get_or items n (Literal 0))) (record { items = stacked items n; room = room })
  popped n e =
      subst (λ (o : Held). Popped o (Some (get_or items n (Literal 0))) (record { items = stacked items n; room = room })) v
      (subst (λ (m : ℕ). Popped (record { items = stacked items m; room = room }) (Some (get_or items n (Literal 0))) (record { items = stacked items n; room = room })) (sym e)
      (record { items = refl; rest = refl; room = refl; fits = omega (arith, length_stacked items n) }))

  pub put : (x : HeldItem) → h < room → h < length items → Turned (λ xs. leaves (item_of x ∷ xs)) old (Some tt) (record { items = stacked (set items h x) (h + 1); room = room })
  put x k b =
      subst (λ (o : Held). Turned (λ xs. leaves (item_of x ∷ xs)) o (Some tt) (record { items = stacked (set items h x) (h + 1); room = room })) v
      (record {
        left = ap leaves (stacked_put items h x b) ∙ within_yes room (item_of x ∷ stacked items h) (omega (arith, length_stacked items h));
        room = refl;
      })

  pub put_not : (x : HeldItem) → room ≤ h → Turned (λ xs. leaves (item_of x ∷ xs)) old None old
  put_not x k =
      subst (λ (o : Held). Turned (λ xs. leaves (item_of x ∷ xs)) o None o) v
      (record { left = within_no room (item_of x ∷ stacked items h) (omega (arith, length_stacked items h)); room = refl })

  pub kept : Turned (λ xs. leaves xs) old (Some tt) old
  kept =
      subst (λ (o : Held). Turned (λ xs. leaves xs) o (Some tt) o) v
      (record { left = within_yes room (stacked items h) (omega (arith, length_stacked items h)); room = refl })

-- A call of a cell by the cell's kind.
module _ (cell : ℕ) (kind : Kind) (k : kind ≡ kind_told cell) (x : Item) where
  pub called_number : kind ≡ NumberCell → (xs : Shape) → leaves (x ∷ xs) ≡ called_over cell x xs
  unfolding if◌then◌otherwise◌
  called_number e [] = rw (is_number cell (sym e ∙ k))
  called_number e (i ∷ xs) = rw (is_number cell (sym e ∙ k))

  pub called_array : kind ≡ Array → (i : Item) (xs ys : Shape) → ys ≡ i ∷ xs → when (value i) (x ∷ xs) ≡ called_over cell x ys
  unfolding if◌then◌otherwise◌
  called_array e i xs ys f =
      let a : (eqb cell 3 ≡ false) × (eqb cell 4 ≡ true) = is_array cell (sym e ∙ k) in
      rw (f, a.0, a.1)

  pub called_empty : kind ≡ Array → (ys : Shape) → ys ≡ [] → breaks ≡ called_over cell x ys
  called_empty e ys f =
      let a : (eqb cell 3 ≡ false) × (eqb cell 4 ≡ true) = is_array cell (sym e ∙ k) in
      rw (f, a.0)

  pub called_closed : kind ≡ Closed → (xs : Shape) → breaks ≡ called_over cell x xs
  unfolding if◌then◌otherwise◌
  called_closed e [] =
      let a : (eqb cell 3 ≡ false) × (eqb cell 4 ≡ false) = is_closed cell (sym e ∙ k) in
      rw a.0
  called_closed e (i ∷ xs) =
      let a : (eqb cell 3 ≡ false) × (eqb cell 4 ≡ false) = is_closed cell (sym e ∙ k) in
      rw (a.0, a.1)
