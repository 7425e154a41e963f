-- The stretch of an array cell: from words to bytes, and from numbers of 16 bits to any.
use Prim.Native.Nat.{ℕ, ◌≤◌}
use mathlib.Core.Path.{◌≡◌, refl, sym, ◌∙◌}
use mathlib.Core.Bool.{Bool, true, false, ◌&&◌}
use mathlib.Core.List.{List}
use native.Mathlib.Omega.{arith}
use borrow.Author.Tests.{le-ltb, leb-false, eq-eqb, ne_eqb}
use lib.Dec.{eqb, ltb, leb}
use lib.ListN.{length}
use Rattle.word.specs.Core.{length_fits, words_fit}
use Rattle.word.specs.Layout.{size_of, address_of}
use Rattle.word.specs.Choices.{if◌then◌otherwise◌}
use Rattle.std.specs.declared.result.Result.{Result}
use Rattle.std.specs.declared.result.Result.TheVariants.{Ok, Err}
use Rattle.handout.specs.declared.Stretch.{Stretch}
use Rattle.handout.specs.declared.HandOutError.{HandOutError}
use Rattle.handout.specs.HandOut.{cell_word, hand_out_number, stretch_start, stretch_count, Handed, handed_by, handed_of}
use Rattle.tape.specs.declared.errors.ReadError.{ReadError}
use Rattle.tape.specs.Files.{read_error_number}
use Rattle.cabinet.specs.Lengths.{core_number_of}
use Rattle.cabinet.specs.declared.refused.Refused.{Refused}
use Rattle.cabinet.specs.ForCode.Refusals.{by_file, by_hand_out, told_by}
use Rattle.cabinet.specs.ForCode.Rooms.{words_read, narrow_of}
use Rattle.cabinet.specs.Arrays.{handed, handed_bytes_of}
use Rattle.cabinet.proofs.Readings.{Filled, filled, unread, positive}

-- ---- from 16 bits

-- An R or a cell out of range gives no words, and the number does not look at it further.
abbrev early : Bool → Bool → ℕ
early a b = if a then (if b then 3 otherwise 2) otherwise 1

out_of_range : (words : List ℕ) (r cell : ℕ) → (ltb r 512 && ltb cell 1024) ≡ false → handed_of words r cell ≡ handed (early (length_fits words) (words_fit words)) 0 0
unfolding hand_out_number stretch_start stretch_count if◌then◌otherwise◌
out_of_range words r cell e = rw e (by (length_fits words) (words_fit words))
  where
    by : (a b : Bool) → handed (early a b) (if eqb (early a b) 0 then address_of (cell_word words r cell) otherwise 0) (if eqb (early a b) 0 then size_of (cell_word words r cell) otherwise 0) ≡ handed (early a b) 0 0
    by true true = refl
    by true false = refl
    by false b = refl

second : (a b : Bool) → b ≡ false → (a && b) ≡ false
second true b e = e
second false b e = refl

past_r : (r cell : ℕ) → 512 ≤ r → (ltb r 512 && ltb cell 1024) ≡ false
past_r r cell h = rw (le-ltb r 512 h)

past_cell : (r cell : ℕ) → 1024 ≤ cell → (ltb r 512 && ltb cell 1024) ≡ false
past_cell r cell h = second (ltb r 512) (ltb cell 1024) (le-ltb cell 1024 h)

narrow_same : (words : List ℕ) (r cell : ℕ) → handed_of words (narrow_of 65535 r) (narrow_of 65535 cell) ≡ handed_of words r cell
unfolding narrow_of if◌then◌otherwise◌
narrow_same words r cell = by _ _ refl refl
  where
    by : (a b : Bool) → leb r 65535 ≡ a → leb cell 65535 ≡ b
        → handed_of words (if a then r otherwise 65535) (if b then cell otherwise 65535) ≡ handed_of words r cell
    by true true p q = refl
    by true false p q =
        out_of_range words r 65535 (past_cell r 65535 (omega arith))
        ∙ sym (out_of_range words r cell (past_cell r cell (omega (arith, leb-false cell 65535 q))))
    by false true p q =
        out_of_range words 65535 cell (past_r 65535 cell (omega arith))
        ∙ sym (out_of_range words r cell (past_r r cell (omega (arith, leb-false r 65535 p))))
    by false false p q =
        out_of_range words 65535 65535 (past_r 65535 65535 (omega arith))
        ∙ sym (out_of_range words r cell (past_r r cell (omega (arith, leb-false r 65535 p))))

-- ---- what the call answers

module _ (core : List ℕ) (r cell : ℕ) where
  pub told_unread : {why : ReadError} → Err why ≡ words_read core → {x : Result Stretch Refused} → x ≡ Err (by_file why) → told_by x ≡ handed_bytes_of core r cell
  unfolding handed_bytes_of if◌then◌otherwise◌
  told_unread {why} e s = rw (s, ← unread core e, ne_eqb (read_error_number why) 0 (positive why))

  module _ {words : List ℕ} (read : Ok words ≡ words_read core) {a b : ℕ} (p : a ≡ narrow_of 65535 r) (q : b ≡ narrow_of 65535 cell) where
    told_is : {x : Handed} → x ≡ handed_of words a b → x ≡ handed_bytes_of core r cell
    unfolding handed_bytes_of if◌then◌otherwise◌
    told_is e =
        let full : Filled core words = filled core read in
        rw (eq-eqb (core_number_of (length core)) 0 full.good, ← full.said) (e ∙ rw (p, q) (narrow_same words r cell))

    pub told_none : (why : HandOutError) → handed_by (Err why) ≡ handed_of words a b → {x : Result Stretch Refused} → x ≡ Err (by_hand_out why) → told_by x ≡ handed_bytes_of core r cell
    told_none why e s = rw s (told_is e)

    pub told_some : (s : Stretch) → handed_by (Ok s) ≡ handed_of words a b → {x : Result Stretch Refused} → x ≡ Ok s → told_by x ≡ handed_bytes_of core r cell
    told_some t e s = rw s (told_is e)
