-- What a sheet that the inspector passes says, as facts.
use Prim.Native.Nat.{ℕ, suc, ◌+◌, ◌*◌, ◌^◌, ◌≤◌, ◌<◌}
use mathlib.Core.Path.{◌≡◌}
use mathlib.Core.Bool.{true, false}
use mathlib.Core.List.{List}
use lib.ListN.{length, get_or}
use Rattle.word.specs.Layout.{flag_of}
use Rattle.sheet.specs.Sheets.{code_of, code_words_of, s_of, room_of, r_of, table_of, cell_of}
use Rattle.inspector.specs.Turns.{turn_of}
use Rattle.inspector.specs.Scan.{shape_at, broken, syllable_at, closes}
use Rattle.inspector.specs.Targets.{misses_target}
use Rattle.demands.proofs.Records.{Apart}
use Rattle.demands.proofs.Arrays.{ArrayFit}

pub record Passed (core sheet : List ℕ) : Type 0 where
  pub most : length core ≤ 32768
  pub words : (i : ℕ) → get_or core i 0 < 2 ^ 48
  -- the code
  pub some : 0 < code_words_of sheet
  pub code_in : code_of sheet + code_words_of sheet ≤ length core
  -- the stack words and the table, apart from the code and each other
  pub stack_in : s_of sheet + room_of sheet < length core
  pub stack_code : Apart (s_of sheet + 1) (room_of sheet) (code_of sheet) (code_words_of sheet)
  pub page : 64 ≤ table_of sheet
  pub table_in : 64 * r_of sheet + table_of sheet ≤ length core
  pub table_code : Apart (64 * r_of sheet) (table_of sheet) (code_of sheet) (code_words_of sheet)
  pub table_stack : Apart (64 * r_of sheet) (table_of sheet) (s_of sheet + 1) (room_of sheet)
  -- the cells
  pub cell : (c k : ℕ) → cell_of sheet c ≡ suc k → c < table_of sheet
  pub numbers : (c : ℕ) → cell_of sheet c ≡ 3 → flag_of (get_or core (64 * r_of sheet + c) 0) ≡ false
  pub arrays : (c : ℕ) → cell_of sheet c ≡ 4 → ArrayFit core sheet (get_or core (64 * r_of sheet + c) 0)
  -- the scan
  pub scan : (i : ℕ) → i < 4 * code_words_of sheet → broken (shape_at core sheet (suc i)) ≡ false
  pub last : (i : ℕ) → suc i ≡ 4 * code_words_of sheet → closes (turn_of (syllable_at core sheet i)) ≡ true
  pub targets : (i : ℕ) → i < 4 * code_words_of sheet → misses_target core sheet i ≡ false
