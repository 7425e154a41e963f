use borrow.Author.Rules.{rules}
use Rattle.trial.proofs.Loads.{trial_refused, trial_ended}
use Rattle.trial.proofs.trials.trial.Goals as goal

pub returns-in_err-load : goal.returns-in_err-load
returns-in_err-load c = trial_refused c.in_err-load.ensures (search rules)

pub returns : goal.returns
returns c = trial_ended c.in_ok-load.ensures c.run_from_start.ensures
