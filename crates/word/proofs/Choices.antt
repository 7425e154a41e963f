-- What a choice is once its test is known.
use mathlib.Core.Path.{◌≡◌, refl}
use mathlib.Core.Bool.{true, false}
use Rattle.word.specs.Choices.{if◌then◌otherwise◌}

pub then_is : {A : Type 0} (x y : A) → (if true then x otherwise y) ≡ x
unfolding if◌then◌otherwise◌
then_is x y = refl

pub otherwise_is : {A : Type 0} (x y : A) → (if false then x otherwise y) ≡ y
unfolding if◌then◌otherwise◌
otherwise_is x y = refl

pub ruleset chosen = (then_is, otherwise_is)
