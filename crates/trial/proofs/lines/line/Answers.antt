use mathlib.Core.Path.{refl, sym, ◌∙◌}
use native.Mathlib.Omega.{arith}
use lib.Seq.{length-take-le}
use Rattle.trial.proofs.Texts.{line_written}
use Rattle.trial.proofs.lines.line.Goals as goal

pub returns-clause-written : goal.returns-clause-written
returns-clause-written c =
    line_written c.args.room.now _ (sym (c.copy_from_slice.ensures.after ∙ c.of-end.ensures.0)) (c.copy_from_slice.ensures.len ∙ length-take-le c.of-end.result.end c.args.room.now (omega arith)) (omega arith) refl
