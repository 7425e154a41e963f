-- A part of a syllable that goes on with a fact, or halts for a cause that a passed segment may have.
use mathlib.Core.Path.{◌≡◌, refl}
use mathlib.Core.Bool.{Bool, true, false}
use Rattle.machine.specs.declared.outcome.Cause.{Cause}
use Rattle.machine.specs.Outcomes.{Res, on, halt, ◌>>=◌}
use Rattle.demands.specs.Stays.{Allowed}
use Rattle.word.specs.Choices.{if◌then◌otherwise◌}

pub data Safe {A : Type 0} (P : A → Type 0) : Res A → Type 0 where
  goes : {a : A} → P a → Safe P (on a)
  stops : {n : Cause} → Allowed n → Safe P (halt n)

pub safe_if : {A : Type 0} {P : A → Type 0} (b : Bool) {x y : Res A} → (b ≡ true → Safe P x) → (b ≡ false → Safe P y) → Safe P (if b then x otherwise y)
unfolding if◌then◌otherwise◌
safe_if true f g = f refl
safe_if false f g = g refl

pub safe_bind : {A B : Type 0} {P : A → Type 0} {Q : B → Type 0} {o : Res A} {f : A → Res B} → Safe P o → ((a : A) → P a → Safe Q (f a)) → Safe Q (o >>= f)
unfolding ◌>>=◌
safe_bind (goes p) k = k _ p
safe_bind (stops h) k = stops h

pub safe_map : {A : Type 0} {P Q : A → Type 0} {o : Res A} → Safe P o → ((a : A) → P a → Q a) → Safe Q o
safe_map (goes p) k = goes (k _ p)
safe_map (stops h) k = stops h
