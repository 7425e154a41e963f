-- The checks 1 and 2 of a core, by their two tests, and the numbers that begin with them.
use Prim.Native.Nat.{ℕ}
use mathlib.Core.Path.{◌≡◌, refl}
use mathlib.Core.Bool.{Bool, true, false}
use mathlib.Core.List.{List}
use Rattle.std.specs.declared.result.Result.{Result}
use Rattle.std.specs.declared.result.Result.TheVariants.{Ok, Err}
use Rattle.word.specs.declared.cores.CoreError.{CoreError}
use Rattle.word.specs.declared.cores.CoreError.TheVariants.{Length, Word}
use Rattle.word.specs.Choices.{if◌then◌otherwise◌}
use Rattle.word.specs.Core.{length_fits, words_fit, checked_of, core_error_number}

-- What holds of the tests and the answer in each of the three cases holds of the core's.
pub by_checks : (core : List ℕ) (P : Bool → Bool → Result (Unit {0}) CoreError → Type 0)
    → P true true (Ok tt) → P true false (Err Word) → ((b : Bool) → P false b (Err Length)) → P (length_fits core) (words_fit core) (checked_of core)
unfolding checked_of if◌then◌otherwise◌
by_checks core P t w l = by (length_fits core) (words_fit core)
  where
    by : (a b : Bool) → P a b (if a then (if b then Ok tt otherwise Err Word) otherwise Err Length)
    by true true = t
    by true false = w
    by false b = l b

module _ (core : List ℕ) where
  -- A core that passed has passed both tests.
  pub both_fit : {u : Unit {0}} → Ok u ≡ checked_of core → (length_fits core ≡ true) × (words_fit core ≡ true)
  both_fit {u} = by_checks core (λ a b r. Ok u ≡ r → (a ≡ true) × (b ≡ true)) (λ e. (refl, refl)) (λ e. cc) (λ b e. cc)

  -- Where the checks 1 and 2 come first, a core that is refused gives its number.
  pub number_refused : (n : ℕ) {why : CoreError} → Err why ≡ checked_of core → core_error_number why ≡ (if length_fits core then (if words_fit core then n otherwise 2) otherwise 1)
  unfolding if◌then◌otherwise◌
  number_refused n {why} = by_checks core (λ a b r. Err why ≡ r → core_error_number why ≡ (if a then (if b then n otherwise 2) otherwise 1)) (λ e. cc) (λ e. cc) (λ b e. cc)
