use mathlib.Core.Path.{◌≡◌}
use Rattle.machine.specs.States.{state_of}
use Rattle.machine.specs.ForCode.Sprints.{upon, rest_of_run}
use Rattle.machine.proofs.quick.sprint.Given as goal

abbrev pub invariant-loop-n : goal.invariant-loop-n
invariant-loop-n l = rest_of_run l.budget l.from (state_of l.initial.core (upon l.g l.initial.t)) ≡ rest_of_run l.budget l.n (state_of l.core (upon l.g l.t))
