-- What a search of a list for a code finds, by its place and by its operator: one of the list with that code, or nothing.
-- Assumes nothing.
use mathlib.Core.Path.{◌≡◌, refl, ◌∙◌, sym, ap}
use mathlib.Core.Logic.{⊎_elim}
use mathlib.Core.Bool.{Bool, true, false}
use mathlib.Core.List.Memᴰ
use mathlib.Core.List.{List, [], ◌∷◌, Memᴰ}
use Prim.Native.Nat.{ℕ, suc, ◌+◌, ◌/◌, ◌<◌}
use native.Mathlib.Omega.{arith}
use borrow.Author.Tests.{eqb-true, eqb-false}
use lib.Dec.{eqb}
use lib.ListN.{length}
use Rattle.syllable.specs.declared.Operator.{Operator}
use Rattle.syllable.specs.declared.Operator.TheVariants.{NotBuilt}
use Rattle.syllable.specs.Codes.{operator_code}
use Rattle.syllable.specs.Decoding.{operator_in}
use Rattle.syllable.specs.Numbers.{index_in}
use Rattle.syllable.specs.ForCode.Numbered.{operator_from}

-- p is the place, counted from n, and r the operator that the search for y gives
pub data Found (n : ℕ) (os : List Operator) (y p : ℕ) (r : Operator) : Type 0 where
  here : (i : ℕ) → Memᴰ r os → operator_code r ≡ y → i < length os → p ≡ n + i → r ≡ operator_from os i (y / 4) → Found n os y p r
  nowhere : ((o : Operator) → Memᴰ o os → operator_code o ≡ y → ⊥) → p ≡ 0 → r ≡ NotBuilt (y / 4) → Found n os y p r

further : {n y p : ℕ} {o r : Operator} {os : List Operator} → (operator_code o ≡ y → ⊥) → Found (suc n) os y p r → Found n (o ∷ os) y p r
further not (here i m c l e f) = here (suc i) (Memᴰ.tail m) c (omega arith) (omega arith) f
further not (nowhere none e f) =
    nowhere (λ o' m c. ⊎_elim (λ s. not (ap operator_code (sym s) ∙ c)) (λ t. none o' t c) (Memᴰ.cases_cons m)) e f

step : (n y p : ℕ) (o r : Operator) (os : List Operator) (b : Bool) → eqb (operator_code o) y ≡ b → Found (suc n) os y p r →
    Found n (o ∷ os) y (elim b [ true ↦ n | false ↦ p ]) (elim b [ true ↦ o | false ↦ r ])
step n y p o r os true t f = here 0 (Memᴰ.head refl) (eqb-true _ _ t) (omega arith) (omega arith) refl
step n y p o r os false t f = further (eqb-false _ _ t) f

pub found : (n : ℕ) (os : List Operator) (y : ℕ) → Found n os y (index_in n os y) (operator_in os y)
found n [] y = nowhere (λ o m c. Memᴰ.not-nil m) refl refl
found n (o ∷ os) y = step n y _ o _ os (eqb (operator_code o) y) refl (found (suc n) os y)
