use Prim.Native.Nat.{◌<◌, ◌+◌, ◌*◌, ◌-◌, ◌^◌}
use mathlib.Core.Path.{◌≡◌}
use lib.ListN.{length, drop}
use Rattle.word.specs.Digits.{numeral}
use Rattle.word.proofs.digits.Base.read.Given as goal

abbrev pub invariant-loop-d : goal.invariant-loop-d
invariant-loop-d l = (l.n < 2 ^ 48) × (numeral l.self.base l.ds ≡ l.n * l.self.base ^ (length l.ds - l.d-index) + numeral l.self.base (drop l.d-index l.ds))
