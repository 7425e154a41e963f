-- The entry of the table of 4,096 at a syllable is the syllable's operator number.
-- Assumes nothing.
use mathlib.Core.Path.{◌≡◌, ◌∙◌, ap}
use mathlib.Core.List.{List}
use Prim.Native.Nat.{ℕ, zero, suc, ◌+◌, ◌%◌, ◌<◌}
use native.Mathlib.Nat.{le_of_suc-le-suc, not-suc-le-zero}
use native.Mathlib.Omega.{arith}
use lib.ListN.{get_or}
use Rattle.syllable.specs.Numbers.{operator_number, numbers_from, operator_numbers}

entry_from : (n y k : ℕ) → k < n → get_or (numbers_from n y) k 0 ≡ operator_number (y + k)
entry_from zero y k h = absurd (not-suc-le-zero h)
entry_from (suc n) y zero h =
    let e : y ≡ y + 0 = omega arith in
    ap operator_number e
entry_from (suc n) y (suc k) h =
    let e : suc y + k ≡ y + suc k = omega arith in
    entry_from n (suc y) k (le_of_suc-le-suc h) ∙ ap operator_number e

pub entry : (table : List ℕ) (y : ℕ) → table ≡ operator_numbers → get_or table (y % 4096) 0 ≡ operator_number (y % 4096)
unfolding operator_numbers
entry table y e = ap (λ (t : List ℕ). get_or t (y % 4096) 0) e ∙ entry_from 4096 0 (y % 4096) (omega arith) ∙ ap operator_number (omega arith)
