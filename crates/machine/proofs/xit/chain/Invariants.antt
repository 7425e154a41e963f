-- What is left to read answers what the whole chain answers.
use mathlib.Core.Path.{◌≡◌}
use Prim.Native.Nat.{◌-◌}
use Rattle.machine.specs.Marks.{chain_of}
use Rattle.machine.proofs.xit.chain.Given as goal

abbrev pub invariant-loop : goal.invariant-loop
invariant-loop l = chain_of 32768 l.core l.m ≡ chain_of (32768 - l.counter) l.core l.at
