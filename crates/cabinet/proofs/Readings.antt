-- The bytes of a core, read into the start of a room; and what its count says of the checks 4 and 1.
use Prim.Native.Nat.{ℕ, ◌*◌, ◌/◌}
use mathlib.Core.Path.{◌≡◌, refl, sym, ◌∙◌, ap}
use mathlib.Core.Bool.{Bool, true, false}
use mathlib.Core.List.{List}
use native.Mathlib.Omega.{arith}
use borrow.Author.Tests.{eq-eqb, ne_eqb, eqb-true}
use lib.Dec.{eqb}
use lib.ListN.{length, take}
use lib.Seq.{length-take-le}
use Rattle.std.specs.declared.result.Result.{Result}
use Rattle.std.specs.declared.result.Result.TheVariants.{Ok, Err}
use Rattle.std.specs.Borrow.{MutBor}
use Rattle.word.specs.Choices.{if◌then◌otherwise◌}
use Rattle.tape.specs.declared.errors.ReadError.{ReadError}
use Rattle.tape.specs.declared.errors.ReadError.TheVariants.{Records, Length}
use Rattle.tape.specs.Files.{words_of, core_number_of, words_in_of, read_error_number, read_number_of, FileRead}
use Rattle.tape.proofs.Numbers.{Whole, counted, read_refused, read_counted, read_whole}
use Rattle.tape.proofs.Words.{words_length, read_yes}
use Rattle.word.specs.Core.{number_by}
use Rattle.cabinet.specs.Lengths.{load_number_of}
use Rattle.cabinet.specs.Crossings.{LoadedBytes}
use Rattle.cabinet.specs.ForCode.Rooms.{words_by, words_as, words_read}

module _ (core : List ℕ) where
  pub none_read : {why : ReadError} → Err why ≡ words_in_of (length core) → {r : Result (MutBor (List ℕ)) ReadError} → r ≡ Err why → words_by r ≡ words_read core
  unfolding words_read
  none_read e s = rw (s, ← e)

  counted_read : {n : ℕ} → Ok n ≡ words_in_of (length core) → read_number_of core n ≡ 0
  unfolding if◌then◌otherwise◌
  counted_read {n} e = read_counted core n e ∙ rw (eq-eqb n n refl)

  pub whole : {n : ℕ} → Ok n ≡ words_in_of (length core) → Whole core n
  whole e = read_whole core _ (counted_read e)

  module _ (room : List ℕ) (full : length room ≡ 32768) {n : ℕ} (e : Ok n ≡ words_in_of (length core)) where
    part : length (take n room) ≡ n
    part = length-take-le n room (omega (arith, (whole e).few))

    accepted : read_number_of core (length (take n room)) ≡ 0
    accepted = ap (read_number_of core) part ∙ counted_read e

    -- As many words as were counted are not refused.
    pub none_other : {A : Type 0} {new : List ℕ} (why : ReadError) → FileRead core (take n room) new (read_error_number why) → A
    none_other Records f = absurd (omega (arith, f.number, accepted))
    none_other Length f = absurd (omega (arith, f.number, accepted))

    pub all_read : {new : List ℕ} → FileRead core (take n room) new 0 → Ok new ≡ words_read core
    unfolding words_read
    all_read f = rw (f.core ∙ sym (read_yes core (take n room) accepted refl), part, ← e)

-- ---- the checks 4 and 1

number_is : (core : List ℕ) → read_number_of core (length core / 6) ≡ core_number_of (length core)
unfolding read_number_of if◌then◌otherwise◌
number_is core = by (eqb (core_number_of (length core)) 0) refl
  where
    by : (b : Bool) → eqb (core_number_of (length core)) 0 ≡ b
        → (if b then (if eqb (length core / 6) (length core / 6) then 0 otherwise 1) otherwise core_number_of (length core)) ≡ core_number_of (length core)
    by true e = rw (eq-eqb (length core / 6) (length core / 6) refl) (sym (eqb-true (core_number_of (length core)) 0 e))
    by false e = refl

module _ (core : List ℕ) where
  pub uncounted : {why : ReadError} → Err why ≡ words_in_of (length core) → read_error_number why ≡ core_number_of (length core)
  uncounted e = read_refused core (length core / 6) e ∙ number_is core

  pub counted_good : {n : ℕ} → Ok n ≡ words_in_of (length core) → core_number_of (length core) ≡ 0
  unfolding if◌then◌otherwise◌
  counted_good {n} e = sym (number_is core) ∙ read_counted core (length core / 6) e ∙ rw (eq-eqb (length core / 6) n (sym (counted (length core) e)))

pub positive : (why : ReadError) → read_error_number why ≡ 0 → ⊥
positive Records z = absurd (omega arith)
positive Length z = absurd (omega arith)

-- The words of a core that was read.
pub record Filled (core words : List ℕ) : Type 0 where
  pub good : core_number_of (length core) ≡ 0
  pub said : words ≡ words_of (length core / 6) core
  pub exact : length core ≡ 6 * length words

module _ (core : List ℕ) where
  pub filled : {words : List ℕ} → Ok words ≡ words_read core → Filled core words
  unfolding words_read
  filled {words} e = by (words_in_of (length core)) refl e
    where
      by : (r : Result ℕ ReadError) → r ≡ words_in_of (length core) → Ok words ≡ words_as r core → Filled core words
      by (Ok n) h e =
          let w : words ≡ words_of n core = cc in
          let l : length words ≡ n = rw w (words_length n core) in
          record { good = counted_good core h; said = w ∙ ap (λ (k : ℕ). words_of k core) (counted (length core) h); exact = omega (arith, (whole core h).exact, l) }
      by (Err why) h e = cc

  pub unread : {why : ReadError} → Err why ≡ words_read core → read_error_number why ≡ core_number_of (length core)
  unfolding words_read
  unread {why} e = by (words_in_of (length core)) refl e
    where
      by : (r : Result ℕ ReadError) → r ≡ words_in_of (length core) → Err why ≡ words_as r core → read_error_number why ≡ core_number_of (length core)
      by (Ok n) h e = cc
      by (Err w) h e = uncounted core (cc)

  -- The count alone says whether the words are read.
  pub none_counted : {why : ReadError} → Err why ≡ words_in_of (length core) → Err why ≡ words_read core
  unfolding words_read
  none_counted e = rw (← e)

  pub some_counted : {n : ℕ} → Ok n ≡ words_in_of (length core) → Ok (words_of n core) ≡ words_read core
  unfolding words_read
  some_counted e = rw (← e)

-- ---- a load

module _ (file core : List ℕ) where
  pub load_none : {why : ReadError} → Err why ≡ words_in_of (length file) → {r : Result (Unit {0}) ReadError} → r ≡ Err why → LoadedBytes file core core (number_by read_error_number r)
  unfolding load_number_of if◌then◌otherwise◌
  load_none {why} e s =
      let n : eqb (read_error_number why) 0 ≡ false = ne_eqb (read_error_number why) 0 (positive why) in
      rw s (record { number = rw (← uncounted file e, n); core = rw (← uncounted file e, n, n) })

  pub load_other : {n : ℕ} → Ok n ≡ words_in_of (length file) → (length core ≡ length file → ⊥) → LoadedBytes file core core 1
  unfolding load_number_of if◌then◌otherwise◌
  load_other e h = record { number = rw (counted_good file e, ne_eqb (length core) (length file) h); core = rw (counted_good file e, ne_eqb (length core) (length file) h) }

  pub load_all : {n : ℕ} {new : List ℕ} → Ok n ≡ words_in_of (length file) → length core ≡ length file → new ≡ file → LoadedBytes file core new 0
  unfolding load_number_of if◌then◌otherwise◌
  load_all e h s = record { number = rw (counted_good file e, eq-eqb (length core) (length file) h); core = rw (s, counted_good file e, eq-eqb (length core) (length file) h) }
