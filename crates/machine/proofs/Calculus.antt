-- How a proof follows a definition's text.
use Rattle.std.specs.declared.result.Result.TheVariants.{Ok, Err}
use mathlib.Core.Path.{◌≡◌, refl}
use mathlib.Core.Bool.{Bool, true, false}
use mathlib.Core.List.{List}
use Rattle.machine.specs.Outcomes.{Res, on, ◌>>=◌}
use Rattle.machine.specs.States.{State}
use Rattle.word.specs.Choices.{if◌then◌otherwise◌}
use Rattle.machine.specs.ForCode.Answers.{Went, went_of, Does}
use Prim.Native.Nat.{ℕ}

-- What unfolds this unfolds a test, and one part after another, which an attribute in the code cannot name.
unfoldable pub branching : Unit {0}
unfolding if◌then◌otherwise◌ ◌>>=◌
branching = tt

-- A test that held, and one that did not.
pub is_yes : {A : Type 0} {b : Bool} {z : A} (x y : A) → b ≡ true → z ≡ x → z ≡ (if b then x otherwise y)
unfolding if◌then◌otherwise◌
is_yes x y t e = rw t e

pub is_no : {A : Type 0} {b : Bool} {z : A} (x y : A) → b ≡ false → z ≡ y → z ≡ (if b then x otherwise y)
unfolding if◌then◌otherwise◌
is_no x y t e = rw t e

-- A part that went on.
pub is_given : {A B : Type 0} {o : Res A} {x : A} {z : Res B} (f : A → Res B) → o ≡ on x → z ≡ f x → z ≡ (o >>= f)
unfolding ◌>>=◌
is_given f h e = rw h e

-- A reader called where a writer is due.
pub reads : {core : List ℕ} (r : Went) {o : Res State} → went_of core r ≡ o → Does core core r o
reads (Ok g) e = record { same = e; kept = refl }
reads (Err n) e = record { same = e; kept = refl }
