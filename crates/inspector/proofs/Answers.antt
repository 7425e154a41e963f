-- The answer, rule by rule, and what the sheet's rules say of its numbers.
use Prim.Native.Nat.{ℕ, ◌+◌, ◌-◌, ◌%◌, ◌≤◌, ◌<◌}
use mathlib.Core.Path.{◌≡◌, refl, sym, ◌∙◌, ap}
use mathlib.Core.Bool.{Bool, true, false, not, ◌&&◌, ◌||◌, false≢true}
use mathlib.Core.List.{List}
use native.Mathlib.Omega.{arith}
use borrow.Author.Tests.{leb-true, not-false}
use lib.Dec.{eqb, leb, ltb}
use lib.ListN.{length, drop}
use Rattle.std.specs.declared.result.Result.{Result}
use Rattle.std.specs.declared.result.Result.TheVariants.{Ok, Err}
use Rattle.sheet.specs.declared.Entry.{Entry}
use Rattle.sheet.specs.Sheets.{entry_at, entries, table_of}
use Rattle.inspector.specs.Verdicts.{Verdict, lowest, nowhere, given, blamed, answer_of, rules, verdict_of, broken_number, broken_place, verdict_by}
use Rattle.inspector.specs.declared.verdict.Broken.{Broken}
use Rattle.inspector.specs.declared.verdict.Broken.TheVariants.{Core}
use Rattle.std.specs.Result.{IsErrAnd}
use Rattle.inspector.specs.Records.{ranged, cells_good, floor_of, record_good, sheet_fits}
use Rattle.inspector.specs.ForCode.Forms.{SheetRanged, records_of}
use Rattle.inspector.proofs.Searches.{none_found}
use Rattle.inspector.proofs.Records.{good_suc}
use Rattle.word.specs.declared.cores.CoreError.{CoreError}
use Rattle.word.specs.Core.{checked_of, core_error_number}
use Rattle.word.proofs.Checks.{by_checks}

-- The rules 1 and 2 by the core's checks: what refuses is blamed, and what passes is left to the other rules.
abbrev blamed_by : Bool → Bool → Verdict → Verdict
blamed_by a b rest = blamed 1 (lowest (λ (i : ℕ). not a) 1 0) (blamed 2 (lowest (λ (i : ℕ). not b) 1 0) rest)

abbrev core_answer : Verdict → Result (Unit {0}) CoreError → Verdict
core_answer rest (Ok x) = rest
core_answer rest (Err e) = given (core_error_number e) 0

core_checked : (core sheet : List ℕ) {r : Result (Unit {0}) CoreError} → r ≡ checked_of core → core_answer (answer_of (drop 2 (rules core sheet))) r ≡ verdict_of core sheet
unfolding verdict_of
core_checked core sheet e =
    let rest : Verdict = answer_of (drop 2 (rules core sheet)) in
    ap (core_answer rest) e ∙ by_checks core (λ a b r. core_answer rest r ≡ blamed_by a b rest) refl refl (λ b. refl)

-- What `?` gives back of a core that is none.
pub given_back : (r : Result (Unit {0}) Broken) (why : CoreError) → IsErrAnd r (λ b. b ≡ Core why) → verdict_by r ≡ given (core_error_number why) 0
given_back (Ok x) why h = absurd h
given_back (Err b) why h = ap (λ (b : Broken). given (broken_number b) (broken_place b)) h

module _ (core sheet : List ℕ) {r : Result (Unit {0}) CoreError} (e : r ≡ checked_of core) where
  pub core_refused : {why : CoreError} → r ≡ Err why → given (core_error_number why) 0 ≡ verdict_of core sheet
  core_refused f = sym (ap (core_answer (answer_of (drop 2 (rules core sheet)))) f) ∙ core_checked core sheet e

  -- Rule 30.
  pub sheet_refused : {x : Unit {0}} {t : Bool} → r ≡ Ok x → t ≡ sheet_fits sheet → t ≡ false → given 30 0 ≡ verdict_of core sheet
  sheet_refused f g h =
      ap (λ (b : Bool). blamed 30 (lowest (λ (i : ℕ). not b) 1 0) (records_of core sheet)) (sym h ∙ g)
      ∙ sym (ap (core_answer (answer_of (drop 2 (rules core sheet)))) f)
      ∙ core_checked core sheet e

  pub sheet_passed : {x : Unit {0}} {t : Bool} {v : Verdict} → r ≡ Ok x → t ≡ sheet_fits sheet → t ≡ true → v ≡ records_of core sheet → v ≡ verdict_of core sheet
  sheet_passed f g h k =
      k
      ∙ ap (λ (b : Bool). blamed 30 (lowest (λ (i : ℕ). not b) 1 0) (records_of core sheet)) (sym h ∙ g)
      ∙ sym (ap (core_answer (answer_of (drop 2 (rules core sheet)))) f)
      ∙ core_checked core sheet e

first_of : (a b : Bool) → (a && b) ≡ true → a ≡ true
first_of true b e = refl
first_of false b e = e

second_of : (a b : Bool) → (a && b) ≡ true → b ≡ true
second_of true b e = e
second_of false b e = absurd (false≢true e)

-- A record in its ranges has a first and a count of at most so many.
module _ (kind far least most : ℕ) (e : Entry) (t : ranged kind far least most e ≡ true) where
  ranged_far : e.first ≤ far
  ranged_far =
      leb-true e.first far
      (second_of (eqb e.kind kind && eqb e.gap 0) (leb e.first far)
      (first_of (eqb e.kind kind && eqb e.gap 0 && leb e.first far) (leb least e.count)
      (first_of (eqb e.kind kind && eqb e.gap 0 && leb e.first far && leb least e.count) (leb e.count most) t)))

  ranged_most : e.count ≤ most
  ranged_most = leb-true e.count most (second_of (eqb e.kind kind && eqb e.gap 0 && leb e.first far && leb least e.count) (leb e.count most) t)

-- Good cells stand within the table.
cells_within : (table floor : ℕ) (e : Entry) → cells_good table floor e ≡ true → e.first + e.count ≤ table
cells_within table floor e t =
    leb-true (e.first + e.count) table
    (second_of ((eqb e.kind 3 || eqb e.kind 4) && eqb e.gap 0 && ltb 0 e.count) (leb (e.first + e.count) table)
    (first_of ((eqb e.kind 3 || eqb e.kind 4) && eqb e.gap 0 && ltb 0 e.count && leb (e.first + e.count) table) (leb floor e.first) t))

module _ (sheet : List ℕ) (s : sheet_fits sheet ≡ true) where
  fits_least : 3 ≤ entries sheet
  unfolding sheet_fits
  fits_least = leb-true 3 (entries sheet) (second_of (eqb (length sheet % 6) 0) (leb 3 (entries sheet)) (first_of (eqb (length sheet % 6) 0 && leb 3 (entries sheet)) (leb (entries sheet) 1027) s))

  pub fits_most : entries sheet ≤ 1027
  unfolding sheet_fits
  fits_most = leb-true (entries sheet) 1027 (second_of (eqb (length sheet % 6) 0 && leb 3 (entries sheet)) (leb (entries sheet) 1027) s)

  -- The records' numbers, once none is bad.
  module _ (e : lowest (λ (i : ℕ). not (record_good sheet i)) (entries sheet) 0 ≡ nowhere) where
    good : (j : ℕ) → j < entries sheet → record_good sheet j ≡ true
    good j h = not-false (record_good sheet j) (none_found (λ (i : ℕ). not (record_good sheet i)) (entries sheet) 0 e j (omega arith) (omega arith))

    table_most : table_of sheet ≤ 1024
    unfolding record_good
    table_most = ranged_most 5 511 64 1024 (entry_at sheet 2) (good 2 (omega (arith, fits_least)))

    pub ranges : SheetRanged sheet
    unfolding record_good
    ranges =
        record {
          least = fits_least;
          most = fits_most;
          start = ranged_far 1 32767 1 1024 (entry_at sheet 0) (good 0 (omega (arith, fits_least)));
          words = ranged_most 1 32767 1 1024 (entry_at sheet 0) (good 0 (omega (arith, fits_least)));
          room = omega (arith, ranged_most 2 32767 0 1023 (entry_at sheet 1) (good 1 (omega (arith, fits_least))));
          cells = λ i h l. omega (arith, table_most, cells_within (table_of sheet) (floor_of sheet (i - 3)) (entry_at sheet i) (good_suc sheet i h ∙ good i l));
        }
