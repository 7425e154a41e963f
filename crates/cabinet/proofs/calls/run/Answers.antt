use Rattle.std.proofs.Common.{rules}
use Rattle.cabinet.proofs.Readings.{none_counted, some_counted}
use Rattle.cabinet.proofs.Backs.{run_unread, run_untaken, run_refused, run_ended}
use Rattle.cabinet.proofs.calls.run.Goals as goal

pub returns-in_err-words_in : goal.returns-in_err-words_in
returns-in_err-words_in c = run_unread _ _ _ (none_counted _ c.in_err-words_in.ensures) {r = c.from_residual.result} (search rules)

pub returns-in_err-g : goal.returns-in_err-g
returns-in_err-g c = run_untaken _ _ _ (some_counted _ c.in_ok-words_in.ensures) c.in_err-g.ensures {r = c.from_residual-in_err-g.result} (search rules)

pub returns-in_err-words : goal.returns-in_err-words
returns-in_err-words c = run_unread _ _ _ c.in_err-words.ensures {r = c.from_residual-in_err-words.result} (search rules)

pub returns-in_err-ran : goal.returns-in_err-ran
returns-in_err-ran c = run_refused _ _ _ c.in_ok-words.ensures c.in_ok-g.ensures _ _ c.in_err-ran.ensures {r = c.from_residual-in_err-ran.result} (search rules)

pub returns : goal.returns
returns c = run_ended _ _ _ c.in_ok-words.ensures c.in_ok-g.ensures _ _ c.in_ok-ran.ensures c.hand_back.ensures
