use Prim.Native.Nat.{◌-◌, ◌/◌, ◌^◌}
use mathlib.Core.Path.{◌≡◌}
use lib.ListN.{length, drop}
use Rattle.word.specs.Digits.{digits}
use Rattle.word.proofs.digits.Base.write.Given as goal

abbrev pub invariant-loop-at : goal.invariant-loop-at
invariant-loop-at l = (length l.out ≡ length l.initial.out) × (l.left ≡ l.n / l.self.base ^ (length l.initial.out - l.at)) × (drop l.at l.out ≡ digits l.self.base (length l.initial.out - l.at) l.n)
