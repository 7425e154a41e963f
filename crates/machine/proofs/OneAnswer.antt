-- Any two permitted answers of a call are equal, and so is what they leave behind its references.
use Prim.Native.Nat.{ℕ}
use mathlib.Core.Path.{◌≡◌, refl, sym, ◌∙◌, ap}
use mathlib.Core.Bool.{Bool, ◌||◌}
use mathlib.Core.List.{List}
use lib.Dec.{eqb}
use Rattle.std.specs.declared.result.Result.{Result}
use Rattle.std.specs.declared.result.Result.TheVariants.{Ok, Err}
use Rattle.machine.specs.declared.outcome.Answer.{Answer}
use Rattle.machine.specs.declared.outcome.Cause.{Cause}
use Rattle.machine.specs.declared.outcome.Cause.TheVariants.{Address, Overflow, Presence, Flag, Index, Unbuilt, Unwhole, ZeroDivisor}
use Rattle.machine.specs.declared.outcome.End.{End}
use Rattle.machine.specs.declared.outcome.End.TheVariants.{On, Communicated, Stopped}
use Rattle.machine.specs.declared.outcome.Ran.{Ran}
use Rattle.machine.specs.declared.outcome.Refusal.{Refusal}
use Rattle.machine.specs.declared.outcome.Refusal.TheVariants.{Core, Registers as Register, Budget}
use Rattle.machine.specs.declared.outcome.Registers.{Registers}
use Rattle.machine.specs.Outcomes.{Res, on, halt, part_of}
use Rattle.machine.specs.Steps.{Stepped, answered}
use Rattle.machine.specs.Runs.{Run, ran_of}
use Rattle.machine.proofs.branches.landing.Reads as landing
use Rattle.machine.proofs.steps.step.Reads as step
use Rattle.machine.proofs.runs.run.Reads as run
use Rattle.word.proofs.Sole.{sole, sole_said}
use Rattle.word.specs.Choices.{if◌then◌otherwise◌}
use Rattle.word.specs.declared.cores.CoreError.TheVariants.{Length, Word}

-- A number given back is one end's or one refusal's.
end_by : ℕ → End
end_by n =
    if eqb n 0 then On
    otherwise if eqb n 17 then Communicated
    otherwise if eqb n 11 then Stopped Address
    otherwise if eqb n 12 then Stopped Overflow
    otherwise if eqb n 13 then Stopped Presence
    otherwise if eqb n 14 then Stopped Flag
    otherwise if eqb n 15 then Stopped Index
    otherwise if eqb n 19 then Stopped Unbuilt
    otherwise if eqb n 20 then Stopped Unwhole
    otherwise Stopped ZeroDivisor

refusal_by : ℕ → Refusal
refusal_by n =
    if eqb n 1 then Core Length
    otherwise if eqb n 2 then Core Word
    otherwise if eqb n 3 then Register
    otherwise Budget

refuses : ℕ → Bool
refuses n = eqb n 1 || eqb n 2 || eqb n 3 || eqb n 5

answer_by : Stepped → Result Answer Refusal
answer_by s = if refuses s.number then Err (refusal_by s.number) otherwise Ok (record { end = end_by s.number; regs = s.regs })

answer_back : (g : Registers) (r : Result Answer Refusal) (core : List ℕ) → answer_by (answered g r core) ≡ r
unfolding answer_by refuses end_by refusal_by if◌then◌otherwise◌
answer_back g (Err (Core Length)) core = refl
answer_back g (Err (Core Word)) core = refl
answer_back g (Err Register) core = refl
answer_back g (Err Budget) core = refl
answer_back g (Ok a) core = go a.end
  where
    go : (e : End) → answer_by (answered g (Ok (record { end = e; regs = a.regs })) core) ≡ Ok (record { end = e; regs = a.regs })
    go On = refl
    go Communicated = refl
    go (Stopped Address) = refl
    go (Stopped Overflow) = refl
    go (Stopped Presence) = refl
    go (Stopped Flag) = refl
    go (Stopped Index) = refl
    go (Stopped Unbuilt) = refl
    go (Stopped Unwhole) = refl
    go (Stopped ZeroDivisor) = refl

ran_by : Run → Result Ran Refusal
ran_by s = if refuses s.stop then Err (refusal_by s.stop) otherwise Ok (record { end = end_by s.stop; completed = s.completed; regs = s.regs })

ran_back : (g : Registers) (r : Result Ran Refusal) (core : List ℕ) → ran_by (ran_of g r core) ≡ r
unfolding ran_by refuses end_by refusal_by if◌then◌otherwise◌
ran_back g (Err (Core Length)) core = refl
ran_back g (Err (Core Word)) core = refl
ran_back g (Err Register) core = refl
ran_back g (Err Budget) core = refl
ran_back g (Ok a) core = go a.end
  where
    go : (e : End) → ran_by (ran_of g (Ok (record { end = e; completed = a.completed; regs = a.regs })) core) ≡ Ok (record { end = e; completed = a.completed; regs = a.regs })
    go On = refl
    go Communicated = refl
    go (Stopped Address) = refl
    go (Stopped Overflow) = refl
    go (Stopped Presence) = refl
    go (Stopped Flag) = refl
    go (Stopped Index) = refl
    go (Stopped Unbuilt) = refl
    go (Stopped Unwhole) = refl
    go (Stopped ZeroDivisor) = refl

answer_core : (g : Registers) (r : Result Answer Refusal) (core : List ℕ) → (answered g r core).core ≡ core
answer_core g (Ok a) core = refl
answer_core g (Err e) core = refl

ran_core : (g : Registers) (r : Result Ran Refusal) (core : List ℕ) → (ran_of g r core).core ≡ core
ran_core g (Ok a) core = refl
ran_core g (Err e) core = refl

-- What meets the equation of a step, or of a run, is told apart by nothing.
pub answered_sole : (g : Registers) {x : Stepped} {r r' : Result Answer Refusal} {core core' : List ℕ} → answered g r core ≡ x → answered g r' core' ≡ x → (r ≡ r') × (core ≡ core')
answered_sole g {x} {r} {r'} {core} {core'} p q =
    let e : answered g r core ≡ answered g r' core' = sole p q in
    (sym (answer_back g r core) ∙ ap answer_by e ∙ answer_back g r' core', sym (answer_core g r core) ∙ ap (λ (s : Stepped). s.core) e ∙ answer_core g r' core')

pub ran_sole : (g : Registers) {x : Run} {r r' : Result Ran Refusal} {core core' : List ℕ} → ran_of g r core ≡ x → ran_of g r' core' ≡ x → (r ≡ r') × (core ≡ core')
ran_sole g {x} {r} {r'} {core} {core'} p q =
    let e : ran_of g r core ≡ ran_of g r' core' = sole p q in
    (sym (ran_back g r core) ∙ ap ran_by e ∙ ran_back g r' core', sym (ran_core g r core) ∙ ap (λ (s : Run). s.core) e ∙ ran_core g r' core')

part_by : Res ℕ → Result ℕ Cause
part_by (on m) = Ok m
part_by (halt n) = Err n

part_back : (r : Result ℕ Cause) → part_by (part_of r) ≡ r
unfolding part_by
part_back (Ok m) = refl
part_back (Err n) = refl

pub landing_sole : (κs : _) (a : _) (r r' : Result ℕ Cause) (e e' : _) → landing.Learnt κs a r e → landing.Learnt κs a r' e' → r ≡ r'
landing_sole κs a r r' e e' p q = sole_said part_of part_by part_back p.0 q.0

pub step_sole : (κs : _) (a : _) (r r' : Result Answer Refusal) (e e' : _) → step.Learnt κs a r e → step.Learnt κs a r' e' → (r ≡ r') × (e.0.now ≡ e'.0.now)
step_sole κs a r r' e e' p q = answered_sole _ p q

pub run_sole : (κs : _) (a : _) (r r' : Result Ran Refusal) (e e' : _) → run.Learnt κs a r e → run.Learnt κs a r' e' → (r ≡ r') × (e.0.now ≡ e'.0.now)
run_sole κs a r r' e e' p q = ran_sole _ p q
