use mathlib.Core.Path.{refl}
use Rattle.trial.proofs.Texts.{decimal_said}
use Rattle.trial.proofs.lines.Text.decimal.Goals as goal

pub returns : goal.returns
returns c = decimal_said _ _ _ _ _ refl c.to_digits.ensures c.leading-k.ensures.0 c.spell.ensures
