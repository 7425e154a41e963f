-- Each way out is one of a load.
use mathlib.Core.Path.{refl}
use borrow.Author.Rules.{rules}
use Rattle.trial.proofs.Loads.{load_refused, load_many, load_read}
use Rattle.trial.proofs.trials.load.Goals as goal

pub returns-in_err-n : goal.returns-in_err-n
returns-in_err-n c = load_refused _ _ _ c.in_err-n.ensures (search rules)

pub returns-then-n-gt4096 : goal.returns-then-n-gt4096
returns-then-n-gt4096 c = load_many _ _ _ c.in_ok-n.ensures c.if-n-gt4096.true

pub returns : goal.returns
returns c = load_read _ _ _ c.in_ok-n.ensures c.if-n-gt4096.false (search rules) c.read_file.ensures refl
