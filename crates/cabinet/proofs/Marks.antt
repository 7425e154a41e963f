-- The set of a row: its marks, one by one, and the numbers that are narrowed.
use Prim.Native.Nat.{ℕ, suc, ◌<◌}
use mathlib.Core.Path.{◌≡◌, refl, sym, ◌∙◌, ap}
use mathlib.Core.Bool.{Bool, true, false}
use mathlib.Core.List.{List}
use native.Mathlib.Omega.{arith}
use borrow.Author.Tests.{eq-eqb, ne_eqb, le-ltb, le-leb, lt-leb}
use lib.Dec.{eqb, ltb}
use lib.ListN.{length, get_or}
use Rattle.std.specs.declared.result.Result.{Result}
use Rattle.std.specs.declared.result.Result.TheVariants.{Ok, Err}
use Rattle.std.specs.Result.{OkIff, result_or, result_unwrap_or}
use mir.Val.{bool_byte}
use Rattle.word.specs.Field.{one_of}
use Rattle.word.specs.Choices.{if◌then◌otherwise◌}
use Rattle.machine.specs.declared.outcome.Registers.{Registers}
use Rattle.machine.specs.declared.outcome.Refusal.{Refusal}
use Rattle.machine.specs.declared.outcome.Refusal.TheVariants.{Registers as Register}
use Rattle.cabinet.specs.Rows.{marks_fit, set_of}
use Rattle.cabinet.specs.ForCode.Rooms.{narrow_of, narrow_set, mark_by, set_by, set_read}
use Rattle.word.specs.Core.{number_by}
use Rattle.tape.specs.declared.errors.ReadError.{ReadError}
use Rattle.tape.specs.declared.errors.ReadError.TheVariants.{Records, Length}
use Rattle.tape.specs.Files.{read_error_number, read_number_of, FileRead}
use Rattle.tape.proofs.Numbers.{whole_read, read_whole}
use Rattle.tape.proofs.Words.{read_yes}

-- ---- a mark

pub mark_past : {w : ℕ} → (w ≡ 0 → ⊥) → (w ≡ 1 → ⊥) → Err Register ≡ mark_by w
unfolding mark_by if◌then◌otherwise◌
mark_past {w} z o = rw (le-ltb w 2 (omega (arith, z, o)))

record On (w : ℕ) (b : Bool) : Type 0 where
  pub small : ltb w 2 ≡ true
  pub is : b ≡ eqb w 1

on : {w : ℕ} {b : Bool} → Ok b ≡ mark_by w → On w b
unfolding mark_by if◌then◌otherwise◌
on {w} {b} e = by (ltb w 2) refl e
  where
    by : (t : Bool) → ltb w 2 ≡ t → Ok b ≡ (if t then Ok (eqb w 1) otherwise Err Register) → On w b
    by true p e = record { small = p; is = cc }
    by false p e = cc

record Off (w : ℕ) (why : Refusal) : Type 0 where
  pub large : ltb w 2 ≡ false
  pub is : why ≡ Register

off : {w : ℕ} {why : Refusal} → Err why ≡ mark_by w → Off w why
unfolding mark_by if◌then◌otherwise◌
off {w} {why} e = by (ltb w 2) refl e
  where
    by : (t : Bool) → ltb w 2 ≡ t → Err why ≡ (if t then Ok (eqb w 1) otherwise Err Register) → Off w why
    by true p e = cc
    by false p e = record { large = p; is = cc }

-- ---- a number that is narrowed

past : {most n : ℕ} → (n < suc most → ⊥) → most < n
past h = omega (arith, h)

pub narrowed_to : {E : Type 0} (most n : ℕ) (r : Result ℕ E) → OkIff r (n < suc most) n → {x : ℕ} → x ≡ result_unwrap_or r most → x ≡ narrow_of most n
unfolding narrow_of if◌then◌otherwise◌
narrowed_to most n (Ok v) (h, e) s = rw (s, e, le-leb n most (omega arith))
narrowed_to most n (Err why) h s = rw (s, lt-leb n most (past h))

-- ---- a row

pub mark_from : (on : Bool) → bool_byte on ≡ one_of on
mark_from true = refl
mark_from false = refl

module _ (row : List ℕ) where
  abbrev at : ℕ → ℕ
  at i = get_or row i 0

  -- The first mark that is neither 0 nor 1 is refused.
  pub first_off : {why : Refusal} → Err why ≡ mark_by (at 1) → {r : Result Registers Refusal} → r ≡ Err why → r ≡ set_by row
  unfolding set_by marks_fit if◌then◌otherwise◌
  first_off e s = rw (s, (off e).is, (off e).large)

  pub second_off : {p : Bool} {why : Refusal} → Ok p ≡ mark_by (at 1) → Err why ≡ mark_by (at 3) → {r : Result Registers Refusal} → r ≡ Err why → r ≡ set_by row
  unfolding set_by marks_fit if◌then◌otherwise◌
  second_off p e s = rw (s, (off e).is, (on p).small, (off e).large)

  pub third_off : {p q : Bool} {why : Refusal} → Ok p ≡ mark_by (at 1) → Ok q ≡ mark_by (at 3) → Err why ≡ mark_by (at 9) → {r : Result Registers Refusal} → r ≡ Err why → r ≡ set_by row
  unfolding set_by marks_fit if◌then◌otherwise◌
  third_off p q e s = rw (s, (off e).is, (on p).small, (on q).small, (off e).large)

  pub fourth_off : {p q t : Bool} {why : Refusal} → Ok p ≡ mark_by (at 1) → Ok q ≡ mark_by (at 3) → Ok t ≡ mark_by (at 9) → Err why ≡ mark_by (at 10) → {r : Result Registers Refusal} → r ≡ Err why → r ≡ set_by row
  unfolding set_by marks_fit if◌then◌otherwise◌
  fourth_off p q t e s = rw (s, (off e).is, (on p).small, (on q).small, (on t).small, (off e).large)

  pub all_on : {p q t u : Bool} {s f c r l : ℕ} → Ok p ≡ mark_by (at 1) → Ok q ≡ mark_by (at 3) → Ok t ≡ mark_by (at 9) → Ok u ≡ mark_by (at 10)
      → s ≡ narrow_of 65535 (at 4) → f ≡ narrow_of 65535 (at 5) → c ≡ narrow_of 65535 (at 6) → r ≡ narrow_of 65535 (at 7) → l ≡ narrow_of 255 (at 8)
      → Ok (record { a = at 0; afull = p; b = at 2; bfull = q; s = s; f = f; c = c; r = r; l = l; salf = t; msff = u }) ≡ set_by row
  unfolding set_by marks_fit set_of narrow_set if◌then◌otherwise◌
  all_on p q t u hs hf hc hr hl =
      rw ((on p).small, (on q).small, (on t).small, (on u).small, (on p).is, (on q).is, (on t).is, (on u).is, hs, hf, hc, hr, hl)

-- ---- the row of 66 bytes

positive : (why : ReadError) → 0 < read_error_number why
positive Records = omega arith
positive Length = omega arith

module _ (regs : List ℕ) {row row' : List ℕ} (n : length row ≡ 11) where
  pub row_refused : (m : Result (Unit {0}) ReadError) → FileRead regs row row' (number_by read_error_number m) → {why : Refusal} → Err why ≡ result_or m (Err Register)
      → {r : Result Registers Refusal} → r ≡ Err why → r ≡ set_read regs
  unfolding set_read if◌then◌otherwise◌
  row_refused (Ok x) f e s = cc
  row_refused (Err why) f e s = rw (s, refused e, ne_eqb (length regs) 66 other)
    where
      refused : {w : Refusal} → ◌≡◌ {A = Result (Unit {0}) Refusal} (Err w) (Err Register) → w ≡ Register
      refused h = cc

      other : length regs ≡ 66 → ⊥
      other l = omega (arith, positive why, f.number ∙ ap (read_number_of regs) n ∙ whole_read regs 11 (record { some = omega arith; few = omega arith; exact = omega arith }))

  pub row_taken : (m : Result (Unit {0}) ReadError) → FileRead regs row row' (number_by read_error_number m) → {x : Unit {0}} → Ok x ≡ result_or m (Err Register)
      → {r : Result Registers Refusal} → r ≡ set_by row' → r ≡ set_read regs
  unfolding set_read if◌then◌otherwise◌
  row_taken (Ok x) f e s =
      let z : read_number_of regs 11 ≡ 0 = ap (read_number_of regs) (sym n) ∙ sym f.number in
      let l : length regs ≡ 66 = (read_whole regs 11 z).exact in
      rw (s, f.core ∙ sym (read_yes regs row (sym f.number) refl), n, eq-eqb (length regs) 66 l)
  row_taken (Err why) f e s = cc
