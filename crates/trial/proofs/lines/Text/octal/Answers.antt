use mathlib.Core.Path.{refl}
use Rattle.trial.proofs.Texts.{octal_said}
use Rattle.trial.proofs.lines.Text.octal.Goals as goal

pub returns : goal.returns
returns c = octal_said _ _ _ _ _ refl c.to_digits.ensures c.spell.ensures
