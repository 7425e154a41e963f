use mathlib.Core.Path.{refl}
use Rattle.std.proofs.Common.{rules}
use Rattle.cabinet.proofs.Marks.{row_refused, row_taken}
use Rattle.cabinet.proofs.rows.set_in.Goals as goal

pub returns-in_err-or : goal.returns-in_err-or
returns-in_err-or c = row_refused _ refl _ c.read_file.ensures c.in_err-or.ensures (search rules)

pub returns : goal.returns
returns c = row_taken _ refl _ c.read_file.ensures c.in_ok-or.ensures c.set_of.ensures
