use Rattle.inspector.proofs.Goings.{Going}
use Rattle.inspector.proofs.scan.scan.Given as goal

abbrev pub invariant-loop-i : goal.invariant-loop-i
invariant-loop-i l = Going l.segment.core.now l.segment.sheet.now l.shape l.marks l.i
