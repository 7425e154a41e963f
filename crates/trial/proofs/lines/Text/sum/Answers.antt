use native.Mathlib.Omega.{arith}
use Rattle.trial.specs.ForCode.Texts.{text_of}
use Rattle.trial.proofs.Texts.{sum_said}
use Rattle.trial.proofs.lines.Text.sum.Goals as goal

pub returns : goal.returns
returns c = (
  sum_said c.args.sum (text_of c.args.self.now) (text_of c.decimal.new.self) (text_of c.decimal-2.new.self) (text_of c.decimal-3.new.self) (text_of c.decimal-4.new.self) (text_of c.decimal-5.new.self)
      c.decimal.ensures.0 c.decimal-2.ensures.0 (rw (← c.from.ensures) c.decimal-3.ensures.0) (rw (← c.from-2.ensures) c.decimal-4.ensures.0) (rw (← c.from-3.ensures) c.decimal-5.ensures.0) c.octal.ensures.0,
  omega arith,
)
