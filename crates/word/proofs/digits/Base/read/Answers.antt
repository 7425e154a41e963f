use native.Mathlib.Omega.{arith}
use Rattle.word.proofs.Places.{gather_more, gather_past}
use Rattle.word.proofs.digits.Base.read.Goals as goal

pub returns-then-n-ge-LIMIT : goal.returns-then-n-ge-LIMIT
returns-then-n-ge-LIMIT c =
    gather_past _ _ _ _ (omega arith) c.if-n-ge-LIMIT.true (gather_more _ _ _ _ _ c.loop-d-test.true c.from.ensures c.loop-d.invariant.1)
