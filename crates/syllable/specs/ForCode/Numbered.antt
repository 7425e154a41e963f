-- What each operator number of the table stands for.
use Rattle.std.specs.Prelude.{List, [], ◌∷◌, ℕ, zero, suc, eqb, Bool, true, false}
use Rattle.syllable.specs.declared.Operator.{Operator}
use Rattle.syllable.specs.declared.Operator.TheVariants.{NotBuilt}
use Rattle.syllable.specs.declared.Syllable.{Syllable}
use Rattle.syllable.specs.declared.Syllable.TheVariants.{Litc, Opdc, Desc, Operator as Operates}
use Rattle.syllable.specs.Codes.{listed}

-- the operator at a place, counted from 0; past the end, one that is not built
abbrev pub operator_from : List Operator → ℕ → ℕ → Operator
operator_from [] n k = NotBuilt k
operator_from (o ∷ os) zero k = o
operator_from (o ∷ os) (suc n) k = operator_from os n k

-- the operator with an operator number
abbrev pub operator_numbered : ℕ → ℕ → Operator
operator_numbered zero k = NotBuilt k
operator_numbered (suc n) k = operator_from listed n k

abbrev pub picked : Bool → Syllable → Syllable → Syllable
picked true s t = s
picked false s t = t

-- the syllable with an operator number and a number k
abbrev pub syllable_numbered : ℕ → ℕ → Syllable
syllable_numbered n k =
    picked (eqb n 37) (Litc k) (picked (eqb n 38) (Opdc k) (picked (eqb n 39) (Desc k) (Operates (operator_numbered n k))))
