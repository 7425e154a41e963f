-- Laws of reading: a word from its six bytes, and the loop that fills a core.
use Prim.Native.Nat.{ℕ, zero, suc, ◌+◌, ◌*◌, ◌<◌}
use mathlib.Core.Path.{◌≡◌, refl, sym, ◌∙◌, ap}
use mathlib.Core.List.{List, [], ◌∷◌, ◌++◌}
use native.Mathlib.Omega.{arith}
use native.Mathlib.Numerals.{add-one}
use borrow.Author.Tests.{eq-eqb, ne_eqb}
use lib.ListN.{length, take, drop, get_or, set}
use Rattle.std.specs.Simd.{first_chunks}
use lib.Seq.{drop-drop, take-suc-set, take_all}
use Rattle.word.specs.Digits.{numeral}
use Rattle.word.specs.Choices.{if◌then◌otherwise◌}
use Rattle.std.specs.declared.result.Result.{Result}
use Rattle.std.specs.declared.result.Result.TheVariants.{Ok, Err}
use Rattle.word.specs.Core.{number_by}
use Rattle.tape.specs.declared.errors.ReadError.{ReadError}
use Rattle.tape.specs.declared.errors.ReadError.TheVariants.{Records, Length}
use Rattle.tape.specs.Files.{words_of, words_in_of, read_error_number, read_number_of, read_file_of, FileRead}
use Rattle.tape.proofs.Numbers.{read_refused, read_counted}

-- Six bytes say a word, the highest first.
pub six_said : (bytes : List ℕ) → length bytes ≡ 6
    → get_or bytes 0 0 * 1099511627776 + get_or bytes 1 0 * 4294967296 + get_or bytes 2 0 * 16777216 + get_or bytes 3 0 * 65536 + get_or bytes 4 0 * 256 + get_or bytes 5 0 ≡ numeral 256 bytes
unfolding numeral
six_said (a ∷ b ∷ c ∷ d ∷ e ∷ f ∷ []) h = omega arith
six_said [] h = absurd (omega arith)
six_said (a ∷ []) h = absurd (omega arith)
six_said (a ∷ b ∷ []) h = absurd (omega arith)
six_said (a ∷ b ∷ c ∷ []) h = absurd (omega arith)
six_said (a ∷ b ∷ c ∷ d ∷ []) h = absurd (omega arith)
six_said (a ∷ b ∷ c ∷ d ∷ e ∷ []) h = absurd (omega arith)
six_said (a ∷ b ∷ c ∷ d ∷ e ∷ f ∷ g ∷ r) h = absurd (omega arith)

-- One word more, at the end.
words_snoc : (n : ℕ) (bytes : List ℕ) → words_of (suc n) bytes ≡ words_of n bytes ++ (numeral 256 (take 6 (drop (6 * n) bytes)) ∷ [])
unfolding words_of
words_snoc zero bytes = refl
words_snoc (suc n) bytes =
    let e : 6 + 6 * n ≡ 6 * suc n = omega arith in
    ap (λ (l : List ℕ). numeral 256 (take 6 bytes) ∷ l) (words_snoc n (drop 6 bytes))
    ∙ rw (drop-drop (6 * n) 6 bytes, e)

pub words_length : (n : ℕ) (bytes : List ℕ) → length (words_of n bytes) ≡ n
unfolding words_of
words_length zero bytes = refl
words_length (suc n) bytes = ap suc (words_length n (drop 6 bytes))

-- ---- the loop: i records are read

-- The records of a file are its bytes by sixes.
record_at : (n i : ℕ) (bytes : List ℕ) → i < n → get_or (first_chunks 6 n bytes) i [] ≡ take 6 (drop (6 * i) bytes)
record_at zero i bytes h = absurd (omega arith)
record_at (suc n) zero bytes h = refl
record_at (suc n) (suc i) bytes h =
    let e : 6 + 6 * i ≡ 6 * suc i = omega arith in
    record_at n i (drop 6 bytes) (omega arith) ∙ rw (drop-drop (6 * i) 6 bytes, e)

pub fill_more : (bytes core : List ℕ) {records : List (List ℕ)} {i n w : ℕ} → records ≡ first_chunks 6 n bytes → i < n → i < length core → take i core ≡ words_of i bytes
    → w ≡ numeral 256 (get_or records i []) → take (i + 1) (set core i w) ≡ words_of (i + 1) bytes
fill_more bytes core {records} {i} {n} {w} r l h e f =
    rw (add-one i, take-suc-set core i w h, words_snoc i bytes, e, f, r, record_at n i bytes l)

pub fill_end : (bytes core : List ℕ) {i n : ℕ} → i ≡ n → length core ≡ n → take i core ≡ words_of i bytes → core ≡ words_of n bytes
fill_end bytes core {i} {n} e l h = sym (take_all i core (omega arith)) ∙ rw (← e) h

-- ---- a file is read, or nothing is written

pub read_yes : (bytes core : List ℕ) {new : List ℕ} → read_number_of bytes (length core) ≡ 0 → new ≡ words_of (length core) bytes → new ≡ read_file_of bytes core
unfolding read_file_of if◌then◌otherwise◌
read_yes bytes core z e = rw (eq-eqb (read_number_of bytes (length core)) 0 z) e

read_no : (bytes core : List ℕ) → (read_number_of bytes (length core) ≡ 0 → ⊥) → core ≡ read_file_of bytes core
unfolding read_file_of if◌then◌otherwise◌
read_no bytes core n = rw (ne_eqb (read_number_of bytes (length core)) 0 n)

-- The three ways out of a reading.
module _ (bytes core : List ℕ) where
  pub file_refused : {why : ReadError} {r : Result (Unit {0}) ReadError} → Err why ≡ words_in_of (length bytes) → r ≡ Err why → FileRead bytes core core (number_by read_error_number r)
  file_refused {why} e f =
      let n : read_error_number why ≡ read_number_of bytes (length core) = read_refused bytes (length core) e in
      rw f (record { number = n; core = read_no bytes core (λ z. above why (n ∙ z)) })
    where
      above : (w : ReadError) → read_error_number w ≡ 0 → ⊥
      above Records z = absurd (omega arith)
      above Length z = absurd (omega arith)

  pub file_other : {words : ℕ} → Ok words ≡ words_in_of (length bytes) → (length core ≡ words → ⊥) → FileRead bytes core core 1
  unfolding if◌then◌otherwise◌
  file_other {words} e h =
      let n : 1 ≡ read_number_of bytes (length core) = rw (read_counted bytes (length core) e, ne_eqb (length core) words h) in
      record { number = n; core = read_no bytes core (λ z. absurd (omega arith)) }

  pub file_whole : {words : ℕ} {new : List ℕ} → Ok words ≡ words_in_of (length bytes) → length core ≡ words → new ≡ words_of (length core) bytes → FileRead bytes core new 0
  unfolding if◌then◌otherwise◌
  file_whole {words} e h w =
      let n : 0 ≡ read_number_of bytes (length core) = rw (read_counted bytes (length core) e, eq-eqb (length core) words h) in
      record { number = n; core = read_yes bytes core (sym n) w }
