-- A syllable is read by its operator number and its number k alone: the table of 4,096 says all that decoding needs.
-- Assumes nothing.
use mathlib.Core.Path.{◌≡◌, refl, ◌∙◌, sym, ap}
use Prim.Native.Nat.{ℕ, zero, suc, ◌/◌, ◌%◌}
use native.Mathlib.Omega.{arith}
use borrow.Author.Tests.{ne_eqb}
use Rattle.syllable.specs.declared.Operator.{Operator}
use Rattle.syllable.specs.declared.Syllable.TheVariants.{Operator as Operates}
use Rattle.syllable.specs.Codes.{listed}
use Rattle.syllable.specs.Decoding.{sort_of, operator_in, decode_as, decode_of}
use Rattle.syllable.specs.Numbers.{index_in, number_as, operator_number}
use Rattle.syllable.proofs.Finding.{Found, here, nowhere, found}
use Rattle.syllable.specs.ForCode.Numbered.{operator_numbered, syllable_numbered}

pub operator_number_is : (n k : ℕ) → (n ≡ 37 → ⊥) → (n ≡ 38 → ⊥) → (n ≡ 39 → ⊥) → Operates (operator_numbered n k) ≡ syllable_numbered n k
operator_number_is n k a b c = simp (ne_eqb n 37 a, ne_eqb n 38 b, ne_eqb n 39 c)

by_place : (y p : ℕ) (r : Operator) → Found 1 listed y p r → Operates r ≡ syllable_numbered p (y / 4)
by_place y p r (here i m c l e f) =
    ap Operates (f ∙ ap (λ (n : ℕ). operator_numbered n (y / 4)) at_p)
    ∙ operator_number_is p (y / 4) (λ h. omega arith) (λ h. omega arith) (λ h. omega arith)
  where
    at_p : suc i ≡ p
    at_p = omega arith
by_place y p r (nowhere none e f) = ap Operates f ∙ ap (λ (n : ℕ). syllable_numbered n (y / 4)) (sym e)

by_kind : (y r : ℕ) → decode_as (sort_of r) y ≡ syllable_numbered (number_as (sort_of r) y) (y / 4)
by_kind y zero = refl
by_kind y (suc zero) = by_place y (index_in 1 listed y) (operator_in listed y) (found 1 listed y)
by_kind y (suc (suc zero)) = refl
by_kind y (suc (suc (suc r))) = refl

pub decode_number : (y : ℕ) → decode_of y ≡ syllable_numbered (operator_number y) (y / 4)
unfolding decode_of operator_number
decode_number y = by_kind y (y % 4)
