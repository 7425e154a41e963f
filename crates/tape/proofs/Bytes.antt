-- Laws of writing: the six stores of a word, and the loop over a core.
use Prim.Native.Nat.{ℕ, ◌+◌, ◌*◌, ◌<◌}
use mathlib.Core.Path.{◌≡◌, refl, sym, ◌∙◌, ap}
use mathlib.Core.List.{List, [], ◌∷◌, ◌++◌, append_assoc, append-nil}
use native.Mathlib.Nat.{div-one}
use native.Mathlib.Omega.{arith}
use native.Mathlib.Numerals.{add-one}
use borrow.Author.Tests.{eq-eqb, ne_eqb}
use borrow.Rule.Slice.PartMut.{put_mid}
use lib.ListN.{length, take, drop, get_or, length-append}
use Rattle.std.specs.Int.{w64, to_be_bytes}
use Rattle.std.proofs.lemmas.Slice.{take-put_mid}
use lib.Seq.{take-suc, take_all}
use Rattle.word.specs.Digits.{digits}
use Rattle.word.proofs.Places.{digits_length}
use Rattle.word.specs.Choices.{if◌then◌otherwise◌}
use Rattle.std.specs.declared.result.Result.{Result}
use Rattle.std.specs.declared.result.Result.TheVariants.{Ok, Err}
use Rattle.word.specs.Core.{number_by, checked_of, core_error_number}
use Rattle.word.specs.declared.cores.CoreError.{CoreError}
use Rattle.word.specs.declared.cores.CoreError.TheVariants.{Length, Word}
use Rattle.tape.specs.declared.errors.WriteError.{WriteError}
use Rattle.tape.specs.declared.errors.WriteError.TheVariants.{Core}
use Rattle.tape.specs.Files.{bytes_of, write_error_number, write_number_of, write_file_of, FileWritten}
use Rattle.word.proofs.Checks.{both_fit, number_refused}
use Rattle.tape.proofs.Numbers.{write_fits}

-- The last six bytes of a word are its digits to the base 256.
pub six_written : (w : ℕ) → drop 2 (to_be_bytes w64 w) ≡ digits 256 6 w
unfolding digits
six_written w = rw (div-one w) refl

-- One word more, at the end.
bytes_snoc : (ws : List ℕ) (w : ℕ) → bytes_of (ws ++ (w ∷ [])) ≡ bytes_of ws ++ digits 256 6 w
unfolding bytes_of
bytes_snoc [] w = append-nil (digits 256 6 w)
bytes_snoc (v ∷ ws) w = ap (λ (l : List ℕ). digits 256 6 v ++ l) (bytes_snoc ws w) ∙ sym (append_assoc (digits 256 6 v) (bytes_of ws) (digits 256 6 w))

pub bytes_length : (core : List ℕ) → length (bytes_of core) ≡ 6 * length core
unfolding bytes_of
bytes_length [] = refl
bytes_length (w ∷ ws) =
    let d : length (digits 256 6 w) ≡ 6 = digits_length 256 6 w in
    let r : length (bytes_of ws) ≡ 6 * length ws = bytes_length ws in
    length-append (digits 256 6 w) (bytes_of ws) ∙ rw (d, r) (omega arith)

-- ---- the loop: i words are written

pub spread_more : (core room : List ℕ) {part : List ℕ} {i : ℕ} (k : ℕ) → i < length core → length room ≡ 6 * length core → take (6 * i) room ≡ bytes_of (take i core)
    → part ≡ digits 256 6 (get_or core i 0) → take (6 * (i + 1)) (put_mid (6 * i) k room part) ≡ bytes_of (take (i + 1) core)
spread_more core room {part} {i} k h l e f =
    let d : length part ≡ 6 = ap length f ∙ digits_length 256 6 (get_or core i 0) in
    take-put_mid (6 * i) k room part (6 * (i + 1)) (omega arith) (omega arith) ∙ rw (e, f, add-one i, take-suc core i 0 h) (sym (bytes_snoc (take i core) (get_or core i 0)))

pub spread_end : (core room : List ℕ) {i : ℕ} → i ≡ length core → length room ≡ 6 * length core → take (6 * i) room ≡ bytes_of (take i core) → room ≡ bytes_of core
spread_end core room {i} h l e =
    sym (take_all (6 * i) room (omega arith)) ∙ e ∙ ap bytes_of (take_all i core (omega arith))

-- ---- a core is written, or nothing is

pub write_yes : (core room : List ℕ) {new : List ℕ} → write_number_of core (length room) ≡ 0 → new ≡ bytes_of core → new ≡ write_file_of core room
unfolding write_file_of if◌then◌otherwise◌
write_yes core room z e = rw (eq-eqb (write_number_of core (length room)) 0 z) e

write_no : (core room : List ℕ) → (write_number_of core (length room) ≡ 0 → ⊥) → room ≡ write_file_of core room
unfolding write_file_of if◌then◌otherwise◌
write_no core room n = rw (ne_eqb (write_number_of core (length room)) 0 n)

-- The three ways out of a writing.
module _ (core room : List ℕ) where
  pub core_refused : {why : CoreError} {r : Result (Unit {0}) WriteError} → Err why ≡ checked_of core → r ≡ Err (Core why) → FileWritten core room room (number_by write_error_number r)
  unfolding write_number_of
  core_refused {why} e f =
      let n : core_error_number why ≡ write_number_of core (length room) = number_refused core _ e in
      rw f (record { number = n; room = write_no core room (λ z. above why (n ∙ z)) })
    where
      above : (w : CoreError) → core_error_number w ≡ 0 → ⊥
      above Length z = absurd (omega arith)
      above Word z = absurd (omega arith)

  pub room_other : {u : Unit {0}} → Ok u ≡ checked_of core → (length room ≡ 6 * length core → ⊥) → FileWritten core room room 4
  unfolding write_number_of if◌then◌otherwise◌
  room_other e h =
      let n : 4 ≡ write_number_of core (length room) = rw ((both_fit core e).0, (both_fit core e).1, ne_eqb (length room) (6 * length core) h) in
      record { number = n; room = write_no core room (λ z. absurd (omega arith)) }

  pub core_whole : {u : Unit {0}} {new : List ℕ} → Ok u ≡ checked_of core → length room ≡ 6 * length core → new ≡ bytes_of core → FileWritten core room new 0
  core_whole e h w =
      let n : 0 ≡ write_number_of core (length room) = write_fits core (length room) (both_fit core e).0 (both_fit core e).1 h in
      record { number = n; room = write_yes core room (sym n) w }
