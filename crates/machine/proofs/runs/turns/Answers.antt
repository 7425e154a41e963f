use mathlib.Core.Path.{refl, sym, ◌∙◌}
use native.Mathlib.Omega.{arith}
use Rattle.machine.proofs.Running.{left_none, left_end, goes_on_is, ends_com, ends_stop}
use Rattle.machine.proofs.runs.turns.Goals as goal

pub loop-q-init : goal.loop-q-init
loop-q-init c = record { within = omega arith; same_size = refl; rest = left_none _ _ }

pub returns-then-q-budget : goal.returns-then-q-budget
returns-then-q-budget c = sym (c.loop-q.invariant.rest ∙ (rw c.if-q-budget.true at c.sprint-q.ensures.rest) ∙ left_end _ _ _ (omega arith))

pub loop-q-preserved : goal.loop-q-preserved
loop-q-preserved c = record {
  within = omega arith;
  same_size = omega arith;
  rest = c.loop-q.invariant.rest ∙ c.sprint-q.ensures.rest ∙ goes_on_is _ _ _ (omega arith) (rw c.in-Ok-Next.field-0-is at c.in-Ok-Next.ensures);
}

pub returns-in-Ok-Com : goal.returns-in-Ok-Com
returns-in-Ok-Com c = sym (c.loop-q.invariant.rest ∙ c.sprint-q.ensures.rest ∙ ends_com _ _ _ (omega arith) (rw c.in-Ok-Com.field-0-is at c.in-Ok-Com.ensures))

pub returns-in-Err : goal.returns-in-Err
returns-in-Err c = sym (c.loop-q.invariant.rest ∙ c.sprint-q.ensures.rest ∙ ends_stop _ _ _ (omega arith) c.in-Err.ensures)
