-- A step is a run of one.
use Rattle.machine.proofs.Running.{step_is}
use Rattle.machine.proofs.steps.step.Goals as goal

pub returns : goal.returns
returns c = step_is _ _ c.turns-ran.result c.in_ok-check.ensures c.turns-ran.ensures
