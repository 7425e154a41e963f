use Rattle.std.proofs.Common.{◌≤◌}
use Rattle.sheet.specs.Sheets.{entries}
use Rattle.inspector.proofs.Paints.{Filled}
use Rattle.inspector.proofs.segments.tell_kinds.Given as goal

abbrev pub invariant-loop-i : goal.invariant-loop-i
invariant-loop-i l = (3 ≤ l.i) × (l.i ≤ entries l.sheet) × Filled l.kinds l.sheet l.i
