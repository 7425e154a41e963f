-- One run after another.
use Rattle.std.specs.Prelude.{ℕ, eqb}
use Rattle.word.specs.Choices.{if◌then◌otherwise◌}
use Rattle.machine.specs.States.{state_of}
use Rattle.machine.specs.Runs.{Run, counted, run_from}

-- A run that spent its budget goes on for m syllables more; one that stopped stays as it is.
abbrev pub goes_on_for : Run → ℕ → Run
goes_on_for r m = if eqb r.stop 0 then counted r.completed (run_from m (state_of r.core r.regs)) otherwise r
