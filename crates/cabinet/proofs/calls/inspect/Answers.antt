use Rattle.std.proofs.Common.{rules}
use Rattle.cabinet.proofs.Readings.{none_counted}
use Rattle.cabinet.proofs.Verdicts.{verdict_unread, verdict_read, verdict_broken}
use Rattle.cabinet.proofs.calls.inspect.Goals as goal

pub returns-in_err-words_in : goal.returns-in_err-words_in
returns-in_err-words_in c = verdict_unread _ _ (none_counted _ c.in_err-words_in.ensures) {x = c.from_residual.result} (search rules)

pub returns-in_err-words : goal.returns-in_err-words
returns-in_err-words c = verdict_unread _ _ c.in_err-words.ensures {x = c.from_residual-in_err-words.result} (search rules)

pub returns-in_err-inspect : goal.returns-in_err-inspect
returns-in_err-inspect c = verdict_broken _ _ c.in_ok-words.ensures _ c.in_err-inspect.ensures {x = c.from_residual-in_err-inspect.result} (search rules)

pub returns : goal.returns
returns c = verdict_read _ _ c.in_ok-words.ensures c.in_ok-inspect.ensures
