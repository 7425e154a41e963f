-- What work answers for k is what two asks of it.
use Rattle.std.proofs.Common.{rules}
use Rattle.machine.specs.Arithmetics.{two_of}
use Rattle.machine.proofs.Calculus.{branching}
use Rattle.machine.proofs.arithmetic.two.Goals as goal

pub returns-in_err-work : goal.returns-in_err-work
unfolding two_of branching
returns-in_err-work g c k h =
    let e = c.work.ensures k h in
    search rules

pub returns : goal.returns
unfolding two_of branching
returns g c k h =
    let e = c.work.ensures k h in
    search rules
