-- Which are proper, that is, which some syllable of 12 bits reads as.
use Rattle.std.specs.Prelude.{◌≡◌, ℕ, ◌+◌, ◌*◌, ◌<◌}
use mathlib.Core.List.{Memᴰ}
use Rattle.syllable.specs.declared.Operator.{Operator}
use Rattle.syllable.specs.declared.Operator.TheVariants.{NotBuilt}
use Rattle.syllable.specs.declared.Syllable.{Syllable}
use Rattle.syllable.specs.declared.Syllable.TheVariants.{Litc, Opdc, Desc, Operator as Operates}
use Rattle.syllable.specs.Codes.{operator_code, listed}

-- y is the code of no listed operator
abbrev pub Unlisted : ℕ → Type 0
Unlisted y = (o : Operator) → Memᴰ o listed → operator_code o ≡ y → ⊥

-- a number k of ten bits; an operator that is listed; or one that is not built, with the number of a code that is not listed
pub data Proper : Syllable → Type 0 where
  litc : {k : ℕ} → k < 1024 → Proper (Litc k)
  opdc : {k : ℕ} → k < 1024 → Proper (Opdc k)
  desc : {k : ℕ} → k < 1024 → Proper (Desc k)
  built : {o : Operator} → Memᴰ o listed → Proper (Operates o)
  others : {k : ℕ} → k < 1024 → Unlisted (4 * k + 1) → Proper (Operates (NotBuilt k))
