-- A file read and written is the same file; a core written and read is the same core.
use Prim.Native.Nat.{ℕ, ◌*◌, ◌<◌, ◌≤◌}
use mathlib.Core.Path.{◌≡◌, refl, sym, ◌∙◌}
use mathlib.Core.Bool.{true}
use mathlib.Core.List.{List}
use native.Mathlib.Omega.{arith}
use lib.ListN.{length}
use Rattle.word.specs.Core.{length_fits, words_fit}
use Rattle.word.specs.Digits.{Below}
use Rattle.tape.specs.Files.{words_of, bytes_of, read_number_of, read_file_of, write_number_of, write_file_of, FileRead, FileWritten}
use Rattle.tape.proofs.Backs.{words_back, words_fit_is, bytes_back, length_fits_is, length_in}
use Rattle.tape.proofs.Numbers.{Whole, Writable, read_whole, whole_read, write_fits, write_writable}
use Rattle.tape.proofs.Words.{words_length, read_yes}
use Rattle.tape.proofs.Bytes.{bytes_length, write_yes}

-- The words of an accepted file say its bytes.
pub file_back : (bytes : List ℕ) (n : ℕ) → Below 256 bytes → read_number_of bytes n ≡ 0 → bytes_of (words_of n bytes) ≡ bytes
file_back bytes n b z = words_back n bytes b (read_whole bytes n z).exact

-- The bytes of a core that fits say its words.
pub core_back : (core : List ℕ) → words_fit core ≡ true → words_of (length core) (bytes_of core) ≡ core
core_back core f = bytes_back core f

-- An accepted file, read and written, is the same file.
pub file_same : (bytes core room : List ℕ) → Below 256 bytes → read_number_of bytes (length core) ≡ 0 → length room ≡ length bytes
    → (write_number_of (read_file_of bytes core) (length room) ≡ 0) × (write_file_of (read_file_of bytes core) room ≡ bytes)
file_same bytes core room b z l =
    let w : Whole bytes (length core) = read_whole bytes (length core) z in
    let n : length (words_of (length core) bytes) ≡ length core = words_length (length core) bytes in
    let x : length bytes ≡ 6 * length core = w.exact in
    let s : 0 < length core = w.some in
    let f : length core ≤ 32768 = w.few in
    let number : write_number_of (words_of (length core) bytes) (length room) ≡ 0 =
    sym (write_fits (words_of (length core) bytes) (length room) (length_fits_is (words_of (length core) bytes) (omega arith) (omega arith)) (words_fit_is (length core) bytes b (omega arith)) (omega arith)) in
    let read : read_file_of bytes core ≡ words_of (length core) bytes = sym (read_yes bytes core z refl) in
    rw read (number, sym (write_yes (words_of (length core) bytes) room number refl) ∙ file_back bytes (length core) b z)

-- A core that fits, written and read, is the same core.
pub core_same : (core room old : List ℕ) → length_fits core ≡ true → words_fit core ≡ true → length room ≡ 6 * length core → length old ≡ length core
    → (write_number_of core (length room) ≡ 0) × (read_number_of (write_file_of core room) (length old) ≡ 0) × (read_file_of (write_file_of core room) old ≡ core)
core_same core room old lf wf l m =
    let n : length (bytes_of core) ≡ 6 * length core = bytes_length core in
    let i : (0 < length core) × (length core ≤ 32768) = length_in core lf in
    let s : 0 < length core = i.0 in
    let f : length core ≤ 32768 = i.1 in
    let number : write_number_of core (length room) ≡ 0 = sym (write_fits core (length room) lf wf l) in
    let written : write_file_of core room ≡ bytes_of core = sym (write_yes core room number refl) in
    let back : read_number_of (bytes_of core) (length old) ≡ 0 =
    whole_read (bytes_of core) (length old) (record { some = omega arith; few = omega arith; exact = omega arith }) in
    (number, rw written back, rw written (sym (read_yes (bytes_of core) old back refl) ∙ rw m (core_back core wf)))

-- The same of any two calls that meet their contracts, one after the other.
pub file_same_calls : (bytes old core room new : List ℕ) (r s : ℕ) → Below 256 bytes → FileRead bytes old core r → r ≡ 0 → length room ≡ length bytes → FileWritten core room new s
    → (s ≡ 0) × (new ≡ bytes)
file_same_calls bytes old core room new r s b p z l q =
    let same : (write_number_of (read_file_of bytes old) (length room) ≡ 0) × (write_file_of (read_file_of bytes old) room ≡ bytes) = file_same bytes old room b (sym p.number ∙ z) l in
    (q.number ∙ rw p.core same.0, q.room ∙ rw p.core same.1)

pub core_same_calls : (core room bytes old new : List ℕ) (r s : ℕ) → FileWritten core room bytes r → r ≡ 0 → length old ≡ length core → FileRead bytes old new s
    → (s ≡ 0) × (new ≡ core)
core_same_calls core room bytes old new r s p z l q =
    let fit : Writable core (length room) = write_writable core (length room) (sym p.number ∙ z) in
    let same : (write_number_of core (length room) ≡ 0) × (read_number_of (write_file_of core room) (length old) ≡ 0) × (read_file_of (write_file_of core room) old ≡ core) =
    core_same core room old fit.fits fit.words fit.exact l in
    (q.number ∙ rw p.room same.1, q.core ∙ rw p.room same.2)
