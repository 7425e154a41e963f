-- The numbers of reading and writing, test by test, and what a 0 says.
use Prim.Native.Nat.{ℕ, suc, ◌*◌, ◌/◌, ◌%◌, ◌<◌, ◌≤◌}
use mathlib.Core.Path.{◌≡◌, refl, sym, ◌∙◌, ap}
use mathlib.Core.Bool.{Bool, true, false, ◌&&◌}
use mathlib.Core.List.{List}
use native.Mathlib.Omega.{arith}
use borrow.Author.Tests.{lt-ltb, le-ltb, le-leb, lt-leb, eq-eqb, ne_eqb, ltb-true, leb-true, eqb-true}
use lib.Dec.{eqb, ltb, leb}
use lib.ListN.{length}
use Rattle.std.specs.declared.result.Result.TheVariants.{Ok, Err}
use Rattle.word.specs.Core.{count_fits, length_fits, words_fit, number_by}
use Rattle.tape.specs.declared.errors.ReadError.{ReadError}
use Rattle.tape.specs.declared.errors.ReadError.TheVariants.{Records, Length}
use Rattle.tape.specs.Files.{core_number_of, words_in_of, read_error_number, read_number_of, write_number_of}
use Rattle.word.specs.Choices.{if◌then◌otherwise◌}

-- ---- reading

-- The rows of words_in_of.
module _ (n : ℕ) where
  pub counts_broken : (n % 6 ≡ 0 → ⊥) → words_in_of n ≡ Err Records
  unfolding words_in_of if◌then◌otherwise◌
  counts_broken h = rw (ne_eqb (n % 6) 0 h)

  pub counts_none : n % 6 ≡ 0 → n / 6 < 1 → words_in_of n ≡ Err Length
  unfolding words_in_of if◌then◌otherwise◌
  counts_none h z = rw (eq-eqb (n % 6) 0 h, le-ltb 0 (n / 6) (omega arith))

  pub counts_many : n % 6 ≡ 0 → 32768 < n / 6 → words_in_of n ≡ Err Length
  unfolding words_in_of if◌then◌otherwise◌
  counts_many h m = rw (eq-eqb (n % 6) 0 h, lt-ltb 0 (n / 6) (omega arith), lt-leb (n / 6) 32768 m)

  pub counts_some : n % 6 ≡ 0 → 0 < n / 6 → n / 6 ≤ 32768 → words_in_of n ≡ Ok (n / 6)
  unfolding words_in_of if◌then◌otherwise◌
  counts_some h p m = rw (eq-eqb (n % 6) 0 h, lt-ltb 0 (n / 6) p, le-leb (n / 6) 32768 m)

pub ruleset counts = (counts_broken, counts_none, counts_many, counts_some)

-- The number of a count of words is that of the file's length.
pub count_number : (n : ℕ) → core_number_of n ≡ number_by read_error_number (words_in_of n)
unfolding core_number_of words_in_of if◌then◌otherwise◌
count_number n = by (eqb (n % 6) 0) (count_fits (n / 6))
  where
    by : (a b : Bool)
        → ◌≡◌ {A = ℕ} (if a then (if b then 0 otherwise 1) otherwise 4) (number_by read_error_number (if a then (if b then Ok (n / 6) otherwise Err Length) otherwise Err Records))
    by true true = refl
    by true false = refl
    by false b = refl

-- A count of words is a sixth of the file's length.
pub counted : (n : ℕ) {words : ℕ} → Ok words ≡ words_in_of n → words ≡ n / 6
unfolding words_in_of if◌then◌otherwise◌
counted n {words} e = by (eqb (n % 6) 0) (count_fits (n / 6)) e
  where
    by : (a b : Bool) → Ok words ≡ (if a then (if b then Ok (n / 6) otherwise Err Length) otherwise Err Records) → words ≡ n / 6
    by true true e = cc
    by true false e = cc
    by false b e = cc

-- A file whose words are not counted is refused by that number; one whose words are is read into as many.
module _ (bytes : List ℕ) (count : ℕ) where
  pub read_refused : {why : ReadError} → Err why ≡ words_in_of (length bytes) → read_error_number why ≡ read_number_of bytes count
  unfolding read_number_of if◌then◌otherwise◌
  read_refused {why} e =
      let h : core_number_of (length bytes) ≡ read_error_number why = count_number (length bytes) ∙ ap (number_by read_error_number) (sym e) in
      rw h (by why)
    where
      by : (w : ReadError) → read_error_number w ≡ (if eqb (read_error_number w) 0 then (if eqb count (length bytes / 6) then 0 otherwise 1) otherwise read_error_number w)
      by Records = refl
      by Length = refl

  pub read_counted : {words : ℕ} → Ok words ≡ words_in_of (length bytes) → read_number_of bytes count ≡ (if eqb count words then 0 otherwise 1)
  unfolding read_number_of if◌then◌otherwise◌
  read_counted {words} e =
      let h : core_number_of (length bytes) ≡ 0 = count_number (length bytes) ∙ ap (number_by read_error_number) (sym e) in
      rw (h, counted (length bytes) e) refl

-- A file that is read has six bytes for each of 1 to 32,768 words.
pub record Whole (bytes : List ℕ) (count : ℕ) : Type 0 where
  pub some : 0 < count
  pub few : count ≤ 32768
  pub exact : length bytes ≡ 6 * count

no : {A : Type 0} (n : ℕ) → suc n ≡ 0 → A
no n e = absurd (omega arith)

pub read_whole : (bytes : List ℕ) (count : ℕ) → read_number_of bytes count ≡ 0 → Whole bytes count
unfolding read_number_of core_number_of if◌then◌otherwise◌
read_whole bytes count e = by _ _ _ _ refl refl refl refl e
  where
    by : (a b c d : Bool) → eqb (length bytes % 6) 0 ≡ a → ltb 0 (length bytes / 6) ≡ b → leb (length bytes / 6) 32768 ≡ c → eqb count (length bytes / 6) ≡ d
        → ◌≡◌ {A = ℕ} (if eqb (if a then (if b && c then 0 otherwise 1) otherwise 4) 0 then (if d then 0 otherwise 1) otherwise (if a then (if b && c then 0 otherwise 1) otherwise 4)) 0 → Whole bytes count
    by true true true true p q r s e =
        let n : count ≡ length bytes / 6 = eqb-true count (length bytes / 6) s in
        let z : length bytes % 6 ≡ 0 = eqb-true (length bytes % 6) 0 p in
        let l : 0 < length bytes / 6 = ltb-true 0 (length bytes / 6) q in
        let u : length bytes / 6 ≤ 32768 = leb-true (length bytes / 6) 32768 r in
        record { some = omega arith; few = omega arith; exact = omega arith }
    by true true true false p q r s e = no 0 e
    by true true false d p q r s e = no 0 e
    by true false c d p q r s e = no 0 e
    by false b c d p q r s e = no 3 e

pub whole_read : (bytes : List ℕ) (count : ℕ) → Whole bytes count → read_number_of bytes count ≡ 0
unfolding read_number_of core_number_of if◌then◌otherwise◌
whole_read bytes count w =
    let x : length bytes ≡ 6 * count = w.exact in
    let s : 0 < count = w.some in
    let f : count ≤ 32768 = w.few in
    rw (eq-eqb (length bytes % 6) 0 (omega arith), lt-ltb 0 (length bytes / 6) (omega arith), le-leb (length bytes / 6) 32768 (omega arith), eq-eqb count (length bytes / 6) (omega arith))

-- ---- writing

pub write_fits : (core : List ℕ) (room : ℕ) → length_fits core ≡ true → words_fit core ≡ true → room ≡ 6 * length core → 0 ≡ write_number_of core room
unfolding write_number_of if◌then◌otherwise◌
write_fits core room l w e = rw (l, w, eq-eqb room (6 * length core) e)

-- A core that is written fits, and has room of six bytes a word.
pub record Writable (core : List ℕ) (room : ℕ) : Type 0 where
  pub fits : length_fits core ≡ true
  pub words : words_fit core ≡ true
  pub exact : room ≡ 6 * length core

pub write_writable : (core : List ℕ) (room : ℕ) → write_number_of core room ≡ 0 → Writable core room
unfolding write_number_of if◌then◌otherwise◌
write_writable core room e = by _ _ _ refl refl refl e
  where
    by : (a b c : Bool) → length_fits core ≡ a → words_fit core ≡ b → eqb room (6 * length core) ≡ c → ◌≡◌ {A = ℕ} (if a then (if b then (if c then 0 otherwise 4) otherwise 2) otherwise 1) 0 → Writable core room
    by true true true p q r e = record { fits = p; words = q; exact = eqb-true room (6 * length core) r }
    by true true false p q r e = no 3 e
    by true false c p q r e = no 1 e
    by false b c p q r e = no 0 e
