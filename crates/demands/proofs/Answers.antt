-- An answer of 0 says all that a passed sheet says.
use Prim.Native.Nat.{ℕ, zero, suc, ◌+◌, ◌-◌, ◌*◌, ◌%◌, ◌^◌, ◌≤◌, ◌<◌}
use mathlib.Core.Path.{◌≡◌, subst}
use mathlib.Core.Bool.{true, false, not, ◌&&◌}
use mathlib.Core.List.{List, [], ◌∷◌}
use native.Mathlib.Omega.{arith}
use borrow.Author.Tests.{eq-eqb, not-false}
use lib.Dec.{eqb}
use lib.ListN.{length, get_or}
use Rattle.word.specs.Layout.{flag_of}
use Rattle.word.specs.Core.{length_fits, words_fit}
use Rattle.sheet.specs.Sheets.{entry_at, entries, code_of, code_words_of, s_of, room_of, r_of, table_of, cell_in, cell_of}
use Rattle.inspector.specs.Areas.{code_area, stack_area, table_area, meets, astray}
use Rattle.inspector.specs.Cells.{array_fits, unfit}
use Rattle.inspector.specs.Turns.{turn_of}
use Rattle.inspector.specs.Scan.{shape_at, broken, syllable_at, closes, breaks_at}
use Rattle.inspector.specs.Targets.{misses_target}
use Rattle.inspector.specs.Verdicts.{given, verdict_of, rules}
use Rattle.demands.specs.Rules.{AllKept, none, kept}
use Rattle.demands.proofs.Tests.{shows_and, shows_lt, shows_le, shows_eq, shows, denies_or, denies_and, denies_lt, denies, denies_not}
use Rattle.demands.proofs.Exact.{zero_kept}
use Rattle.demands.proofs.Records.{apart, Range, range, cells_in, cell_in_is}
use Rattle.demands.proofs.Arrays.{ArrayFit, array_fit}
use Rattle.demands.proofs.Passed.{Passed}
use Rattle.inspector.specs.Records.{sheet_fits, record_good, floor_of}

words_fit_is : (core : List ℕ) → words_fit core ≡ true → (i : ℕ) → get_or core i 0 < 2 ^ 48
unfolding words_fit
words_fit_is [] e i = omega arith
words_fit_is (w ∷ ws) e zero = (shows_and (shows_lt w (2 ^ 48)) (shows (words_fit ws)) e).0
words_fit_is (w ∷ ws) e (suc i) = words_fit_is ws (shows_and (shows_lt w (2 ^ 48)) (shows (words_fit ws)) e).1 i

module _ (core sheet : List ℕ) where
  core_most : length_fits core ≡ true → length core ≤ 32768
  unfolding length_fits
  core_most e = (shows_and (shows_lt 0 (length core)) (shows_le (length core) 32768) e).1

  sheet_least : sheet_fits sheet ≡ true → 3 ≤ entries sheet
  unfolding sheet_fits
  sheet_least e = (shows_and (shows_and (shows_eq (length sheet % 6) 0) (shows_le 3 (entries sheet))) (shows_le (entries sheet) 1027) e).0.1

  code_range : record_good sheet 0 ≡ true → Range 32767 1 1024 (entry_at sheet 0)
  unfolding record_good
  code_range e = range 1 32767 1 1024 (entry_at sheet 0) e

  table_range : record_good sheet 2 ≡ true → Range 511 64 1024 (entry_at sheet 2)
  unfolding record_good
  table_range e = range 5 511 64 1024 (entry_at sheet 2) e

  cells_range : (i : ℕ) → record_good sheet (suc (suc (suc i))) ≡ true → (entry_at sheet (3 + i)).first + (entry_at sheet (3 + i)).count ≤ table_of sheet
  unfolding record_good
  cells_range i e = cells_in (table_of sheet) (floor_of sheet i) (entry_at sheet (3 + i)) e

  code_stays : astray core sheet 0 ≡ false → code_of sheet + code_words_of sheet ≤ length core
  unfolding astray
  code_stays e = denies_lt (length core) (code_of sheet + code_words_of sheet) e

  stack_stays : astray core sheet 1 ≡ false → (s_of sheet + 1 + room_of sheet ≤ length core) × (meets (stack_area sheet) (code_area sheet) ≡ false)
  unfolding astray
  stack_stays e = denies_or (denies_lt (length core) (s_of sheet + 1 + room_of sheet)) (denies (meets (stack_area sheet) (code_area sheet))) e

  abbrev TableStays : Type 0
  TableStays =
      ((64 * r_of sheet + table_of sheet ≤ length core) × (meets (table_area sheet) (code_area sheet) ≡ false))
      × (meets (table_area sheet) (stack_area sheet) ≡ false)

  table_stays : astray core sheet 2 ≡ false → TableStays
  unfolding astray
  table_stays e =
      denies_or
      (denies_or (denies_lt (length core) (64 * r_of sheet + table_of sheet)) (denies (meets (table_area sheet) (code_area sheet))))
      (denies (meets (table_area sheet) (stack_area sheet))) e

  number_fit : (c : ℕ) → unfit core sheet c ≡ false → cell_of sheet c ≡ 3 → flag_of (get_or core (64 * r_of sheet + c) 0) ≡ false
  unfolding unfit
  number_fit c e h =
      (denies_or (denies_and (eq-eqb (cell_of sheet c) 3 h) (denies (flag_of (get_or core (64 * r_of sheet + c) 0))))
      (denies (eqb (cell_of sheet c) 4 && not (array_fits core sheet (get_or core (64 * r_of sheet + c) 0)))) e).0

  array_fits_is : (c : ℕ) → unfit core sheet c ≡ false → cell_of sheet c ≡ 4 → ArrayFit core sheet (get_or core (64 * r_of sheet + c) 0)
  unfolding unfit
  array_fits_is c e h =
      array_fit core sheet _
      (denies_or (denies (eqb (cell_of sheet c) 3 && flag_of (get_or core (64 * r_of sheet + c) 0)))
      (denies_and (eq-eqb (cell_of sheet c) 4 h) (denies_not (array_fits core sheet (get_or core (64 * r_of sheet + c) 0)))) e).1

  scanned : (i : ℕ) → breaks_at core sheet i ≡ false → broken (shape_at core sheet (suc i)) ≡ false
  unfolding breaks_at
  scanned i e =
      (denies_or (denies (broken (shape_at core sheet (suc i)))) (denies (eqb (suc i) (4 * code_words_of sheet) && not (closes (turn_of (syllable_at core sheet i))))) e).0

  closed : (i : ℕ) → breaks_at core sheet i ≡ false → suc i ≡ 4 * code_words_of sheet → closes (turn_of (syllable_at core sheet i)) ≡ true
  unfolding breaks_at
  closed i e h =
      (denies_or (denies (broken (shape_at core sheet (suc i)))) (denies_and (eq-eqb (suc i) (4 * code_words_of sheet) h) (denies_not (closes (turn_of (syllable_at core sheet i))))) e).1

  cell_low : (n : ℕ) → ((j : ℕ) → 3 ≤ j → j < 3 + (n - 3) → record_good sheet j ≡ true) → (c k : ℕ) → cell_in sheet (n - 3) 3 c ≡ suc k → c < table_of sheet
  cell_low n f c k e = cell_in_is sheet (table_of sheet) (n - 3) 3 c k (λ j p q. good j p (f j p q)) e
    where
      good : (j : ℕ) → 3 ≤ j → record_good sheet j ≡ true → (entry_at sheet j).first + (entry_at sheet j).count ≤ table_of sheet
      good zero p e = absurd (omega arith)
      good (suc zero) p e = absurd (omega arith)
      good (suc (suc zero)) p e = absurd (omega arith)
      good (suc (suc (suc j))) p e = subst (λ (i : ℕ). (entry_at sheet i).first + (entry_at sheet i).count ≤ table_of sheet) (omega arith) (cells_range j e)

  facts : length core ≤ 32768
      → ((i : ℕ) → get_or core i 0 < 2 ^ 48)
      → 3 ≤ entries sheet
      → ((i : ℕ) → i < entries sheet → record_good sheet i ≡ true)
      → ((i : ℕ) → i < 3 → astray core sheet i ≡ false)
      → ((c : ℕ) → c < table_of sheet → unfit core sheet c ≡ false)
      → ((i : ℕ) → i < 4 * code_words_of sheet → breaks_at core sheet i ≡ false)
      → ((i : ℕ) → i < 4 * code_words_of sheet → misses_target core sheet i ≡ false)
      → Passed core sheet
  unfolding cell_of
  facts most words three good near fit scans lands =
      let low : (c k : ℕ) → cell_of sheet c ≡ suc k → c < table_of sheet =
      λ c k e. cell_low (entries sheet) (λ j p q. good j (omega arith)) c k e in
      let code = code_range (good 0 (omega arith)) in
      let table = table_range (good 2 (omega arith)) in
      let stack = stack_stays (near 1 (omega arith)) in
      let far = table_stays (near 2 (omega arith)) in
      record {
        most = most;
        words = words;
        some = code.least;
        code_in = code_stays (near 0 (omega arith));
        stack_in = omega (arith, stack.0);
        stack_code = apart _ _ _ _ stack.1;
        page = table.least;
        table_in = far.0.0;
        table_code = apart _ _ _ _ far.0.1;
        table_stack = apart _ _ _ _ far.1;
        cell = low;
        numbers = λ c e. number_fit c (fit c (low c 2 e)) e;
        arrays = λ c e. array_fits_is c (fit c (low c 3 e)) e;
        scan = λ i h. scanned i (scans i h);
        last = λ i e. closed i (scans i (omega arith)) e;
        targets = lands;
      }

  by_rules : AllKept (rules core sheet) → Passed core sheet
  by_rules (kept one (kept two (kept thirty (kept records (kept areas (kept cells (kept scan (kept targets none)))))))) =
      facts (core_most (not-false _ (one 0 (omega arith)))) (words_fit_is core (not-false _ (two 0 (omega arith)))) (sheet_least (not-false _ (thirty 0 (omega arith))))
      (λ i h. not-false _ (records i h)) areas cells scan targets

  pub passed : verdict_of core sheet ≡ given 0 0 → Passed core sheet
  passed e = by_rules (zero_kept core sheet e)
