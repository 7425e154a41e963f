-- What a step of the panel leaves: "set of registers is moved on by one syllable where it stands".
use Rattle.std.specs.Prelude.{ℕ, List}
use Rattle.std.specs.declared.result.Result.{Result}
use Rattle.std.specs.declared.result.Result.TheVariants.{Ok, Err}
use Rattle.machine.specs.declared.outcome.End.{End}
use Rattle.machine.specs.declared.outcome.Refusal.{Refusal}
use Rattle.machine.specs.declared.outcome.Registers.{Registers}
use Rattle.machine.specs.Steps.{Stepped, end_number, refusal_number}

-- The number of what it answers, the registers where they stand, and the core.
abbrev pub moved_by : Result End Refusal → Registers → List ℕ → Stepped
moved_by (Ok n) g core = record { number = end_number n; core = core; regs = g }
moved_by (Err n) g core = record { number = refusal_number n; core = core; regs = g }
