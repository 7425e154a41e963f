-- An operator number above those of the table stands for an operator that is not built.
-- Assumes nothing.
use mathlib.Core.Path.{◌≡◌, refl, ◌∙◌, ap}
use mathlib.Core.List.{List, [], ◌∷◌}
use Prim.Native.Nat.{ℕ, zero, suc, ◌≤◌}
use native.Mathlib.Nat.{le_of_suc-le-suc, not-suc-le-zero}
use native.Mathlib.Omega.{arith}
use lib.ListN.{length}
use Rattle.syllable.specs.declared.Operator.{Operator}
use Rattle.syllable.specs.declared.Operator.TheVariants.{NotBuilt}
use Rattle.syllable.specs.declared.Syllable.TheVariants.{Operator as Operates}
use Rattle.syllable.specs.Codes.{listed}
use Rattle.syllable.specs.ForCode.Numbered.{operator_from, syllable_numbered}
use Rattle.syllable.proofs.Numbered.{operator_number_is}

past : (os : List Operator) (n k : ℕ) → length os ≤ n → NotBuilt k ≡ operator_from os n k
past [] n k h = refl
past (o ∷ os) zero k h = absurd (not-suc-le-zero h)
past (o ∷ os) (suc n) k h = past os n k (le_of_suc-le-suc h)

pub none_at : (n k : ℕ) → 40 ≤ n → Operates (NotBuilt k) ≡ syllable_numbered n k
none_at zero k h = absurd (not-suc-le-zero h)
none_at (suc n) k h =
    ap Operates (past listed n k (omega arith)) ∙ operator_number_is (suc n) k (λ e. omega arith) (λ e. omega arith) (λ e. omega arith)
