-- Laws of a run: what is left of it after n completed syllables.
use Rattle.std.specs.declared.result.Result.TheVariants.{Ok, Err}
use Prim.Native.Nat.{ℕ, suc, ◌+◌, ◌-◌, ◌≤◌, ◌<◌}
use mathlib.Core.Path.{◌≡◌, refl, ◌∙◌, ap}
use mathlib.Core.List.{List}
use native.Mathlib.Omega.{arith}
use native.Mathlib.Nat.{add_assoc, add-zero, zero-add}
use borrow.Author.Tests.{ne_eqb, le-leb, lt-leb}
use Rattle.machine.specs.declared.outcome.Ran.{Ran}
use Rattle.machine.specs.declared.outcome.Cause.{Cause}
use Rattle.machine.specs.declared.outcome.Registers.{Registers}
use Rattle.machine.specs.declared.outcome.Done.TheVariants.{Next, Com}
use Rattle.machine.specs.declared.outcome.Refusal.{Refusal}
use Rattle.machine.specs.Outcomes.{number_of}
use Rattle.machine.specs.States.{State, state_of}
use Rattle.machine.specs.Steps.{Ended, next, communicated, stopped, Stepped, ended_as, execute_of, refusal_of, refusal_number, step_of}
use Rattle.machine.specs.Runs.{Run, ends_at, goes_on, counted, run_from, run_of, run_says, ran_of}
use Rattle.word.specs.Choices.{if◌then◌otherwise◌}
use Rattle.machine.specs.ForCode.Answers.{Ends}
use Rattle.machine.specs.ForCode.Sprints.{rest_of_run}
use Rattle.machine.proofs.Endings.{positive}

pub left_none : (b : ℕ) (st : State) → run_from b st ≡ rest_of_run b 0 st
unfolding rest_of_run
left_none b st =
    let e : b - 0 ≡ b = omega arith in
    rw (e, zero-add (run_from b st).completed)

pub left_end : (b n : ℕ) (st : State) → b ≤ n → rest_of_run b n st ≡ ends_at 0 n st
unfolding rest_of_run run_from
left_end b n st h =
    let e : b - n ≡ 0 = omega arith in
    rw (e, add-zero n)

-- One syllable more.
pub left_more : (b n : ℕ) (st : State) → n < b → rest_of_run b n st ≡ counted n (goes_on (execute_of st) (run_from (b - (n + 1))) st)
unfolding rest_of_run run_from
left_more b n st h =
    let e : b - n ≡ suc (b - (n + 1)) = omega arith in
    rw e

module _ {core core' : List ℕ} (b n : ℕ) (g : Registers) (more : n < b) where
  pub goes_on_is : {h : Registers} → Ends core core' (Ok (Next h)) (execute_of (state_of core g)) → rest_of_run b n (state_of core g) ≡ rest_of_run b (n + 1) (state_of core' h)
  unfolding rest_of_run
  goes_on_is {h} d = left_more b n (state_of core g) more ∙ rw (← d.same, add_assoc n 1 (run_from (b - (n + 1)) (state_of core' h)).completed)

  pub ends_com : {h : Registers} → Ends core core' (Ok (Com h)) (execute_of (state_of core g)) → rest_of_run b n (state_of core g) ≡ ends_at 17 (n + 1) (state_of core' h)
  ends_com d = left_more b n (state_of core g) more ∙ rw (← d.same)

  pub ends_stop : {c : Cause} → Ends core core' (Err c) (execute_of (state_of core g)) → rest_of_run b n (state_of core g) ≡ ends_at (number_of c) n (state_of core' g)
  ends_stop {c} d = left_more b n (state_of core g) more ∙ rw (← d.same, add-zero n, ← d.kept)

-- ---- the checks before a run

pub run_refused : (core : List ℕ) (g : Registers) (b : ℕ) (e : Refusal) → refusal_number e ≡ refusal_of core g → ran_of g (Err e) core ≡ run_of core g b
unfolding run_of if◌then◌otherwise◌
run_refused core g b e h = rw (← h, ne_eqb (refusal_number e) 0 (λ z. omega (arith, positive e, z)))

pub run_over : (core : List ℕ) (g : Registers) (b : ℕ) → 0 ≡ refusal_of core g → 1000000 < b → ends_at 5 0 (state_of core g) ≡ run_of core g b
unfolding run_of if◌then◌otherwise◌
run_over core g b e h = rw (← e, lt-leb b 1000000 h)

pub run_steps : (core : List ℕ) (g : Registers) (b : ℕ) → 0 ≡ refusal_of core g → b ≤ 1000000 → run_from b (state_of core g) ≡ run_of core g b
unfolding run_of if◌then◌otherwise◌
run_steps core g b e h = rw (← e, le-leb b 1000000 h)

-- ---- a step is a run of one

-- What a run of one answers, its count set aside.
abbrev as_step : Run → Stepped
as_step r = record { number = r.stop; core = r.core; regs = r.regs }

one_is : (st : State) → as_step (run_from 1 st) ≡ ended_as (execute_of st) st
unfolding run_from
one_is st = go (execute_of st)
  where
    go : (e : Ended) → as_step (goes_on e (run_from 0) st) ≡ ended_as e st
    go (next u) = refl
    go (communicated u) = refl
    go (stopped n) = refl

pub step_is : (core : List ℕ) {core' : List ℕ} (g : Registers) (r : Ran) → 0 ≡ refusal_of core g → run_says r core' ≡ run_from 1 (state_of core g) → as_step (run_says r core') ≡ step_of core g
unfolding step_of if◌then◌otherwise◌
step_is core g r e f = rw (← e) (ap as_step f ∙ one_is (state_of core g))
