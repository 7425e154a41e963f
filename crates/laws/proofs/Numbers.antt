-- The numbers of the machine: a refusal's are 1, 2, 3 and 5; that of an end is 0, or a stop's from 11 on.
use Prim.Native.Nat.{◌<◌, ◌≤◌}
use mathlib.Core.Path.{◌≡◌, refl}
use mathlib.Core.Logic.{◌⊎◌, inl, inr}
use native.Mathlib.Omega.{arith}
use Rattle.machine.specs.declared.outcome.Cause.{Cause}
use Rattle.machine.specs.declared.outcome.Cause.TheVariants.{Address, Overflow, Presence, Flag, Index, Unbuilt, Unwhole, ZeroDivisor}
use Rattle.machine.specs.declared.outcome.End.{End}
use Rattle.machine.specs.declared.outcome.End.TheVariants.{On, Communicated, Stopped}
use Rattle.machine.specs.declared.outcome.Refusal.{Refusal}
use Rattle.machine.specs.declared.outcome.Refusal.TheVariants.{Core, Registers, Budget}
use Rattle.word.specs.declared.cores.CoreError.TheVariants.{Length, Word}
use Rattle.machine.specs.Outcomes.{number_of}
use Rattle.machine.specs.Steps.{end_number, refusal_number}

cause_from : (c : Cause) → 11 ≤ number_of c
cause_from Address = omega arith
cause_from Overflow = omega arith
cause_from Presence = omega arith
cause_from Flag = omega arith
cause_from Index = omega arith
cause_from Unbuilt = omega arith
cause_from Unwhole = omega arith
cause_from ZeroDivisor = omega arith

pub end_from : (e : End) → (end_number e ≡ 0) ⊎ (11 ≤ end_number e)
end_from On = inl refl
end_from Communicated = inr (omega arith)
end_from (Stopped c) = inr (cause_from c)

pub refusal_within : (n : Refusal) → (0 < refusal_number n) × (refusal_number n ≤ 5)
refusal_within (Core Length) = (omega arith, omega arith)
refusal_within (Core Word) = (omega arith, omega arith)
refusal_within Registers = (omega arith, omega arith)
refusal_within Budget = (omega arith, omega arith)
