use Prim.Native.Nat.{◌≤◌, ◌-◌}
use mathlib.Core.Path.{◌≡◌}
use lib.ListN.{length}
use Rattle.machine.specs.Runs.{run_from}
use Rattle.machine.specs.States.{state_of}
use Rattle.machine.specs.ForCode.Sprints.{rest_of_run}
use Rattle.machine.proofs.runs.turns.Given as goal

abbrev pub invariant-loop-q : goal.invariant-loop-q
invariant-loop-q l = record {
  within : l.completed ≤ l.budget;
  same_size : length l.core ≡ length l.initial.core;
  rest : run_from l.budget (state_of l.initial.core l.initial.regs) ≡ rest_of_run l.budget l.completed (state_of l.core l.regs);
}

abbrev pub decreases-loop-q : goal.decreases-loop-q
decreases-loop-q l = l.budget - l.completed
