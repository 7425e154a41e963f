-- What work answers for k is what two asks of it.
use Rattle.std.proofs.Common.{rules}
use Rattle.machine.specs.Arithmetics.{two_of}
use Rattle.machine.specs.Stack.{both_full_of, a_full_of, b_full_of}
use Rattle.machine.proofs.Calculus.{branching}
use Rattle.machine.proofs.quick.both.Goals as goal

pub returns : goal.returns
unfolding two_of both_full_of a_full_of b_full_of branching
returns g c k h =
    let e = c.work.ensures k h in
    λ core q. search rules
