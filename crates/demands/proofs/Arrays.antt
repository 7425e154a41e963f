-- Rule 33 of an array cell, as facts.
use Prim.Native.Nat.{ℕ, zero, suc, ◌+◌, ◌*◌, ◌≤◌, ◌<◌}
use mathlib.Core.Path.{◌≡◌, subst}
use mathlib.Core.Bool.{true, false}
use mathlib.Core.List.{List}
use native.Mathlib.Omega.{arith}
use native.Mathlib.Decide.{ℕ_discrete}
use lib.ListN.{length, get_or}
use Rattle.word.specs.Field.{bit}
use Rattle.word.specs.Layout.{flag_of, presence_of, size_of, address_of, array_in}
use Rattle.sheet.specs.Sheets.{code_of, code_words_of, s_of, room_of, r_of, table_of}
use Rattle.inspector.specs.Areas.{area, code_area, stack_area, table_area, meets}
use Rattle.inspector.specs.Cells.{plain_words, array_fits}
use Rattle.demands.proofs.Tests.{shows_and, shows_lt, shows_le, shows, shows_not}
use Rattle.demands.proofs.Records.{Apart, apart}

-- "an array cell holds a present data descriptor, size over 0, area in core, meeting none of those three, all its words flag off"
pub record ArrayFit (core sheet : List ℕ) (d : ℕ) : Type 0 where
  pub flag : flag_of d ≡ true
  pub second : bit d 1 ≡ false
  pub presence : presence_of d ≡ true
  pub size : 0 < size_of d
  pub area : address_of d + size_of d ≤ length core
  pub off_code : Apart (address_of d) (size_of d) (code_of sheet) (code_words_of sheet)
  pub off_stack : Apart (address_of d) (size_of d) (s_of sheet + 1) (room_of sheet)
  pub off_table : Apart (address_of d) (size_of d) (64 * r_of sheet) (table_of sheet)
  pub plain : (j : ℕ) → address_of d ≤ j → j < address_of d + size_of d → flag_of (get_or core j 0) ≡ false

here : (core : List ℕ) (i j : ℕ) → Dec (i ≡ j) → flag_of (get_or core i 0) ≡ false → ((i ≡ j → ⊥) → flag_of (get_or core j 0) ≡ false) → flag_of (get_or core j 0) ≡ false
here core i j (yes q) e f = subst (λ (k : ℕ). flag_of (get_or core k 0) ≡ false) q e
here core i j (no q) e f = f q

plain_words_is : (core : List ℕ) (a n : ℕ) → plain_words core a n ≡ true → (j : ℕ) → a ≤ j → j < a + n → flag_of (get_or core j 0) ≡ false
unfolding plain_words
plain_words_is core a zero e j h l = absurd (omega arith)
plain_words_is core a (suc n) e j h l =
    let t = shows_and (shows_not (flag_of (get_or core a 0))) (shows (plain_words core (suc a) n)) e in
    here core a j (ℕ_discrete a j) t.0 (λ q. plain_words_is core (suc a) n t.1 j (omega arith) (omega arith))

array_in_is : (len d : ℕ) → array_in len d ≡ true → ((((flag_of d ≡ true) × (bit d 1 ≡ false)) × (presence_of d ≡ true)) × (0 < size_of d)) × (address_of d + size_of d ≤ len)
unfolding array_in
array_in_is len d = shows_and (shows_and (shows_and (shows_and (shows (flag_of d)) (shows_not (bit d 1))) (shows (presence_of d))) (shows_lt 0 (size_of d))) (shows_le (address_of d + size_of d) len)

pub array_fit : (core sheet : List ℕ) (d : ℕ) → array_fits core sheet d ≡ true → ArrayFit core sheet d
unfolding array_fits
array_fit core sheet d e =
    let x = area (address_of d) (size_of d) in
    let t = shows_and (shows_and (shows (array_in (length core) d)) (shows_and (shows_and (shows_not (meets x (code_area sheet))) (shows_not (meets x (stack_area sheet)))) (shows_not (meets x (table_area sheet))))) (shows (plain_words core (address_of d) (size_of d))) e in
    let u = array_in_is (length core) d t.0.0 in
    record {
      flag = u.0.0.0.0;
      second = u.0.0.0.1;
      presence = u.0.0.1;
      size = u.0.1;
      area = u.1;
      off_code = apart _ _ _ _ t.0.1.0.0;
      off_stack = apart _ _ _ _ t.0.1.0.1;
      off_table = apart _ _ _ _ t.0.1.1;
      plain = plain_words_is core (address_of d) (size_of d) t.1;
    }
