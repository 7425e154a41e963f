-- What the code's own answers stand for, and the two forms of a claim.
use Rattle.std.specs.Prelude.{ℕ, ◌≡◌, Bool, true, false, List, ℤ, set}
use Rattle.std.specs.declared.option.Option.{Option}
use Rattle.std.specs.declared.option.Option.TheVariants.{Some, None}
use Rattle.std.specs.declared.result.Result.{Result}
use Rattle.std.specs.declared.result.Result.TheVariants.{Ok, Err}
use Rattle.machine.specs.declared.outcome.Registers.{Registers}
use Rattle.machine.specs.declared.outcome.Cause.{Cause}
use Rattle.machine.specs.declared.outcome.Cause.TheVariants.{Unwhole}
use Rattle.machine.specs.declared.outcome.Done.{Done}
use Rattle.machine.specs.declared.outcome.Done.TheVariants.{Next, Com}
use Rattle.std.specs.Int.{w64}
use Rattle.std.specs.Int.RustNames.{FitsSigned}
use Rattle.machine.specs.Outcomes.{Res, on, halt, part_of}
use Rattle.machine.specs.States.{State, state_of}
use Rattle.machine.specs.Arithmetics.{given_of}
use Rattle.machine.specs.Steps.{Ended, next, communicated, stopped}

-- What a part of a syllable answers.
abbrev pub Went : Type 0
Went = Result Registers Cause

abbrev pub went_of : List ℕ → Went → Res State
went_of core (Ok g) = on (state_of core g)
went_of core (Err n) = halt n

-- How a syllable ends.
abbrev pub Ending : Type 0
Ending = Result Done Cause

abbrev pub done_of : List ℕ → Ending → Ended
done_of core (Ok (Next g)) = next (state_of core g)
done_of core (Ok (Com g)) = communicated (state_of core g)
done_of core (Err n) = stopped n

-- The core that an answer leaves: a stop leaves the one it was handed.
abbrev pub left_by : {A : Type 0} → Result A Cause → List ℕ → List ℕ → List ℕ
left_by (Ok g) core core' = core'
left_by (Err n) core core' = core

-- A function that writes core: what it answers with the core at exit is the definition's, and a stop leaves the core.
pub record Does (core core' : List ℕ) (r : Went) (o : Res State) : Type 0 where
  pub same : went_of core' r ≡ o
  pub kept : core' ≡ left_by r core core'

pub record Ends (core core' : List ℕ) (r : Ending) (o : Ended) : Type 0 where
  pub same : done_of core' r ≡ o
  pub kept : core' ≡ left_by r core core'

-- A result that may be past the code's own numbers.
abbrev pub given_if : Option ℤ → Res ℕ
given_if (Some z) = given_of z
given_if None = halt Unwhole

-- A closure that answers what k answers, of any two numbers of an i64.
abbrev pub Works : (ℤ → ℤ → Result ℕ Cause → Type 0) → (ℤ → ℤ → Res ℕ) → Type 0
Works post k = (y x : ℤ) (r : Result ℕ Cause) → FitsSigned w64 y → FitsSigned w64 x → post y x r → part_of r ≡ k y x

-- A write that is made or not.
abbrev pub put_of : Bool → ℕ → ℕ → List ℕ → List ℕ
put_of true m w core = set core m w
put_of false m w core = core

-- How a syllable ends by how its parts went.
abbrev pub plain_as : Went → Ending
plain_as (Ok g) = Ok (Next g)
plain_as (Err n) = Err n
