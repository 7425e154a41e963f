use native.Mathlib.Omega.{arith}
use Rattle.trial.proofs.Texts.{line_ended, line_refused}
use Rattle.trial.proofs.lines.Text.of.Goals as goal

pub returns-in-Ok : goal.returns-in-Ok
returns-in-Ok c = (line_ended _ c.in-Ok.is c.sum.ensures.0, c.sum.ensures.1)

pub returns-in-Err : goal.returns-in-Err
returns-in-Err c = (line_refused _ c.in-Err.is c.decimal.ensures.0, omega arith)
