-- OPDC and DESC of a number cell, and of an array cell over an index, leave what the scan says.
use Prim.Native.Nat.{ℕ, ◌+◌, ◌*◌, ◌%◌, ◌<◌, ◌≤◌}
use mathlib.Core.Path.{◌≡◌, refl, sym, ◌∙◌, ap, subst}
use mathlib.Core.Logic.{inr}
use mathlib.Core.Bool.{Bool, true, false, ◌&&◌, true≢false}
use mathlib.Core.List.{List, [], ◌∷◌}
use native.Mathlib.Omega.{arith}
use borrow.Author.Tests.{ltb-true, eqb-true}
use lib.Dec.{eqb, ltb}
use lib.IntN.{ℤ, pos, negsuc}
use lib.ListN.{length, get_or}
use Rattle.machine.specs.States.{State, fill_a, word_at}
use Rattle.machine.specs.Calls.{within_of, index_of, indexed_of, load_of, data_call_of, left_of, call_as, call_of, fetched_of, call_k_of}
use Rattle.word.specs.Field.{with_field, bit}
use Rattle.word.specs.Layout.{flag_of, presence_of, size_of, address_of, data_of}
use Rattle.word.specs.Addresses.{sum_of}
use Rattle.word.specs.Kinds.{kind_of}
use Rattle.word.specs.declared.kinds.Kind.{Kind}
use Rattle.word.specs.declared.kinds.Kind.TheVariants.{Operand, Data}
use Rattle.word.proofs.Makings.{data_back}
use Rattle.sheet.specs.Sheets.{room_of, r_of, cell_of}
use Rattle.inspector.specs.Scan.{Item, number, place, Shape, leaves, when, value, called_over}
use Rattle.demands.specs.Stays.{ArrayWord, Open}
use Rattle.demands.proofs.Tests.{shows_and, shows, shows_eq}
use Rattle.demands.proofs.Safe.{Safe, goes, stops, safe_if, safe_bind}
use Rattle.demands.proofs.Arrays.{ArrayFit}
use Rattle.demands.proofs.Passed.{Passed}
use Rattle.demands.proofs.Holds.{Fits, plain, points, At, EmptyA, FullA}
use Rattle.demands.proofs.Cores.{open_in, array_unnamed}
use Rattle.demands.proofs.Stacks.{register_some, rest_empty}
use Rattle.demands.proofs.Adjusts.{read_safe, a_empty, b_full}
use Rattle.demands.proofs.Words.{taken_safe, indexed_flag, indexed_second, indexed_presence, indexed_size, indexed_address}
use Rattle.demands.proofs.Operators.{Does, does_when, at_a}
use Rattle.demands.proofs.Stores.{address_safe, cell_open}
use Rattle.word.specs.Choices.{if◌then◌otherwise◌}

-- "OPDC and LOD give a number, DESC a place"
abbrev pub called : Bool → Item
called true = place
called false = number

operand_kind : (w : ℕ) → flag_of w ≡ false → kind_of w ≡ Operand
unfolding kind_of if◌then◌otherwise◌
operand_kind w e = rw e

data_kind : (w : ℕ) → flag_of w ≡ true → bit w 1 ≡ false → kind_of w ≡ Data
unfolding kind_of if◌then◌otherwise◌
data_kind w e f = rw (e, f)

within_safe : (z : ℤ) (size : ℕ) → Safe (λ (n : ℕ). n < size) (within_of z size)
unfolding within_of
within_safe (pos n) size = safe_if (ltb n size) (λ e. goes (ltb-true n size e)) (λ _. stops tt)
within_safe (negsuc n) size = stops tt

index_safe : (w size : ℕ) → Safe (λ (n : ℕ). n < size) (index_of w size)
unfolding index_of
index_safe w size = safe_bind (taken_safe w) (λ z _. within_safe z size)

module _ (core sheet : List ℕ) (ok : Passed core sheet) (p : ℕ) where
  -- ---- a number cell

  left_safe : (desc : Bool) (k m : ℕ) (st : State) (xs : Shape) → cell_of sheet k ≡ 3 → m ≡ 64 * r_of sheet + k → EmptyA core sheet p xs st → length (called desc ∷ xs) ≤ room_of sheet → Safe (At core sheet p (called desc ∷ xs)) (left_of desc m (fill_a st (word_at st m)))
  unfolding left_of if◌then◌otherwise◌
  left_safe true k m st xs c e v room =
      let o : Open core sheet m = subst (λ (m : ℕ). Open core sheet m) (sym e) (cell_open core sheet ok p k c) in
      let d = data_back true 0 m in
      let at : address_of (data_of true 0 m) ≡ m = omega (arith, d.address, open_in core sheet ok o, ok.most) in
      goes (at_a core sheet ok p st st v.kept v.set room (points (record { flag = d.flag; second = d.second; presence = d.presence; size = d.size; target = subst (λ (m : ℕ). Open core sheet m) (sym at) o })) v.rest)
  left_safe false k m st xs c e v room =
      let o : Open core sheet m = subst (λ (m : ℕ). Open core sheet m) (sym e) (cell_open core sheet ok p k c) in
      goes (at_a core sheet ok p st st v.kept v.set room (plain (v.kept.plain m o)) v.rest)

  number_call : (desc : Bool) (k m : ℕ) (st : State) (xs : Shape) → cell_of sheet k ≡ 3 → m ≡ 64 * r_of sheet + k → EmptyA core sheet p xs st → length (called desc ∷ xs) ≤ room_of sheet → Safe (At core sheet p (called desc ∷ xs)) (call_of desc m (fill_a st (word_at st m)))
  unfolding call_of
  number_call desc k m st xs c e v room =
      let o : Open core sheet m = subst (λ (m : ℕ). Open core sheet m) (sym e) (cell_open core sheet ok p k c) in
      subst (λ (kind : Kind). Safe (At core sheet p (called desc ∷ xs)) (call_as kind desc m (fill_a st (word_at st m)) (word_at st m)))
      (sym (operand_kind (word_at st m) (v.kept.plain m o)))
      (left_safe desc k m st xs c e v room)

  -- ---- an array cell

  module _ (k d : ℕ) (c : cell_of sheet k ≡ 4) (q : get_or core (64 * r_of sheet + k) 0 ≡ d) where
    array_is : ArrayFit core sheet d
    array_is = subst (λ (w : ℕ). ArrayFit core sheet w) q (ok.arrays k c)

    area_word : (n : ℕ) → n < size_of d → ArrayWord core sheet (address_of d + n)
    area_word n h =
        record {
          cell = k;
          array = c;
          from = subst (λ (w : ℕ). address_of w ≤ address_of d + n) (sym q) (omega arith);
          below = subst (λ (w : ℕ). address_of d + n < address_of w + size_of w) (sym q) (omega arith);
        }

    indexed_fits : (n : ℕ) → n < size_of d → Fits core sheet place (with_field (with_field d 8 17 0) 33 47 (sum_of (address_of d) n))
    indexed_fits n h =
        let at : address_of (with_field (with_field d 8 17 0) 33 47 (sum_of (address_of d) n)) ≡ address_of d + n =
        indexed_address d (sum_of (address_of d) n) ∙ small (address_of d + n) (omega (arith, array_is.area, ok.most)) in
        points
        (record {
          flag = indexed_flag d (sum_of (address_of d) n) ∙ array_is.flag;
          second = indexed_second d (sum_of (address_of d) n) ∙ array_is.second;
          presence = indexed_presence d (sum_of (address_of d) n) ∙ array_is.presence;
          size = indexed_size d (sum_of (address_of d) n);
          target = subst (λ (m : ℕ). Open core sheet m) (sym at) (inr (area_word n h));
        })
      where
        small : (x : ℕ) → x < 32768 → x % 32768 % 32768 ≡ x
        small x h = omega arith

    indexed_safe : (st : State) (y : Item) (xs : Shape) → EmptyA core sheet p (y ∷ xs) st → length (y ∷ xs) ≤ room_of sheet → Safe (FullA core sheet p place xs) (indexed_of (fill_a st d) d)
    unfolding indexed_of
    indexed_safe st y xs v room =
        safe_if (eqb (size_of d) 0) (λ e. absurd (omega (arith, eqb-true (size_of d) 0 e, array_is.size)))
        (λ _. safe_bind (b_full core sheet ok p (fill_a st d) y xs v.kept v.set v.rest room)
        (λ u i. safe_bind (index_safe u.regs.b (size_of d))
        (λ n h. goes (record { kept = i.kept; set = i.set; on = refl; a = indexed_fits n h; rest = rest_empty core sheet i.under }))))

  target : {w : ℕ} → Fits core sheet place w → Open core sheet (address_of w)
  target (points q) = q.target

  -- The word at a place is read, its flag off.
  load_safe : (st : State) (xs : Shape) → FullA core sheet p place xs st → length (number ∷ xs) ≤ room_of sheet → Safe (At core sheet p (number ∷ xs)) (load_of st)
  unfolding load_of
  load_safe st xs v room =
      let o : Open core sheet (address_of st.regs.a) = target v.a in
      safe_bind (read_safe st.core (address_of st.regs.a) (omega (arith, v.kept.size, open_in core sheet ok o)))
      (λ w e.
      let f : flag_of w ≡ false = ap flag_of e ∙ v.kept.plain (address_of st.regs.a) o in
      safe_if (flag_of w) (λ g. absurd (true≢false (sym g ∙ f))) (λ _. goes (at_a core sheet ok p st st v.kept v.set room (plain f) v.rest)))

  data_safe : (desc : Bool) (k d : ℕ) → cell_of sheet k ≡ 4 → get_or core (64 * r_of sheet + k) 0 ≡ d → (st : State) (y : Item) (xs : Shape) → EmptyA core sheet p (y ∷ xs) st → length (y ∷ xs) ≤ room_of sheet → Safe (At core sheet p (called desc ∷ xs)) (data_call_of desc (fill_a st d) d)
  unfolding data_call_of if◌then◌otherwise◌
  data_safe true k d c q st y xs v room =
      safe_bind (indexed_safe k d c q st y xs v room)
      (λ u i. goes (record { kept = i.kept; set = i.set; room = omega arith; mid = xs; top = register_some core sheet i.on i.a; rest = i.rest }))
  data_safe false k d c q st y xs v room = safe_bind (indexed_safe k d c q st y xs v room) (λ u i. load_safe u xs i (omega arith))

  array_call : (desc : Bool) (k m : ℕ) (st : State) (y : Item) (xs : Shape) → cell_of sheet k ≡ 4 → m ≡ 64 * r_of sheet + k → EmptyA core sheet p (y ∷ xs) st → length (y ∷ xs) ≤ room_of sheet → Safe (At core sheet p (called desc ∷ xs)) (call_of desc m (fill_a st (word_at st m)))
  unfolding call_of
  array_call desc k m st y xs c e v room =
      let q : get_or core (64 * r_of sheet + k) 0 ≡ word_at st m =
      sym (v.kept.same (64 * r_of sheet + k) (array_unnamed core sheet ok k c)) ∙ ap (λ (m : ℕ). word_at st m) (sym e) in
      let a : ArrayFit core sheet (word_at st m) = array_is k (word_at st m) c q in
      subst (λ (kind : Kind). Safe (At core sheet p (called desc ∷ xs)) (call_as kind desc m (fill_a st (word_at st m)) (word_at st m)))
      (sym (data_kind (word_at st m) a.flag a.second))
      (safe_if (presence_of (word_at st m)) (λ _. data_safe desc k (word_at st m) c q st y xs v room) (λ f. absurd (true≢false (sym a.presence ∙ f))))

  -- ---- either

  number_does : (desc : Bool) (here k : ℕ) (st : State) (xs : Shape) → cell_of sheet k ≡ 3 → At core sheet p xs st → length (called desc ∷ xs) ≤ room_of sheet → Safe (At core sheet p (called desc ∷ xs)) (call_k_of desc here st k)
  unfolding call_k_of fetched_of
  number_does desc here k st xs c v room =
      safe_bind (a_empty core sheet ok p st xs v)
      (λ u i. safe_bind (address_safe core sheet ok p here u k i.kept i.set (open_in core sheet ok (cell_open core sheet ok p k c)))
      (λ m e. number_call desc k m u xs c e i room))

  array_does : (desc : Bool) (here k : ℕ) (st : State) (y : Item) (xs : Shape) → cell_of sheet k ≡ 4 → At core sheet p (y ∷ xs) st → Safe (At core sheet p (called desc ∷ xs)) (call_k_of desc here st k)
  unfolding call_k_of fetched_of
  array_does desc here k st y xs c v =
      safe_bind (a_empty core sheet ok p st (y ∷ xs) v)
      (λ u i. safe_bind (address_safe core sheet ok p here u k i.kept i.set (omega (arith, ok.cell k 3 c, ok.table_in)))
      (λ m e. array_call desc k m u y xs c e i v.room))

  over : (desc : Bool) (here k : ℕ) (st : State) (y : Item) (xs : Shape) (b : Bool) → eqb (cell_of sheet k) 3 ≡ b → At core sheet p (y ∷ xs) st → Does core sheet p (if b then leaves (called desc ∷ y ∷ xs) otherwise when (eqb (cell_of sheet k) 4 && value y) (called desc ∷ xs)) (call_k_of desc here st k)
  unfolding if◌then◌otherwise◌
  over desc here k st y xs true e v = number_does desc here k st (y ∷ xs) (eqb-true _ _ e) v
  over desc here k st y xs false e v =
      does_when core sheet p (eqb (cell_of sheet k) 4 && value y)
      (λ f room. array_does desc here k st y xs (shows_and (shows_eq (cell_of sheet k) 4) (shows (value y)) f).0 v)

  pub call_does : (desc : Bool) (here k : ℕ) (st : State) (xs : Shape) → At core sheet p xs st → Does core sheet p (called_over (cell_of sheet k) (called desc) xs) (call_k_of desc here st k)
  call_does desc here k st [] v = does_when core sheet p (eqb (cell_of sheet k) 3) (λ e room. number_does desc here k st [] (eqb-true _ _ e) v room)
  call_does desc here k st (y ∷ xs) v = over desc here k st y xs (eqb (cell_of sheet k) 3) refl v
