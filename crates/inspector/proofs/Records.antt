-- Rule 31 by the record's place, and what the three first records say once none is bad.
use Prim.Native.Nat.{ℕ, suc, ◌+◌, ◌-◌, ◌≤◌}
use mathlib.Core.Path.{◌≡◌, ◌∙◌}
use mathlib.Core.Bool.{Bool}
use mathlib.Core.List.{List}
use native.Mathlib.Omega.{arith}
use Rattle.sheet.specs.Sheets.{entry_at, table_of}
use Rattle.inspector.specs.Records.{cells_good, floor_of, record_good}

by_suc : (sheet : List ℕ) (j i : ℕ) → i ≡ suc (suc (suc j)) → cells_good (table_of sheet) (floor_of sheet j) (entry_at sheet i) ≡ record_good sheet i
unfolding record_good
by_suc sheet j i e =
    let l : suc (suc (suc j)) ≡ 3 + j = omega arith in
    rw (e, l)

pub good_suc : (sheet : List ℕ) (i : ℕ) → 3 ≤ i → cells_good (table_of sheet) (floor_of sheet (i - 3)) (entry_at sheet i) ≡ record_good sheet i
good_suc sheet i h =
    let k : i ≡ suc (suc (suc (i - 3))) = omega arith in
    by_suc sheet (i - 3) i k

pub good_more : (sheet : List ℕ) (i : ℕ) {r : Bool} → 3 ≤ i → r ≡ cells_good (table_of sheet) (floor_of sheet (i - 3)) (entry_at sheet i) → r ≡ record_good sheet i
good_more sheet i h e = e ∙ good_suc sheet i h
