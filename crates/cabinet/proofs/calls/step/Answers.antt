use Rattle.std.proofs.Common.{rules}
use Rattle.cabinet.proofs.Readings.{none_counted, some_counted}
use Rattle.cabinet.proofs.Backs.{step_unread, step_untaken, step_refused, step_ended}
use Rattle.cabinet.proofs.calls.step.Goals as goal

pub returns-in_err-words_in : goal.returns-in_err-words_in
returns-in_err-words_in c = step_unread _ _ (none_counted _ c.in_err-words_in.ensures) {r = c.from_residual.result} (search rules)

pub returns-in_err-g : goal.returns-in_err-g
returns-in_err-g c = step_untaken _ _ (some_counted _ c.in_ok-words_in.ensures) c.in_err-g.ensures {r = c.from_residual-in_err-g.result} (search rules)

pub returns-in_err-words : goal.returns-in_err-words
returns-in_err-words c = step_unread _ _ c.in_err-words.ensures {r = c.from_residual-in_err-words.result} (search rules)

pub returns-in_err-answer : goal.returns-in_err-answer
returns-in_err-answer c = step_refused _ _ c.in_ok-words.ensures c.in_ok-g.ensures _ _ c.in_err-answer.ensures {r = c.from_residual-in_err-answer.result} (search rules)

pub returns : goal.returns
returns c = step_ended _ _ c.in_ok-words.ensures c.in_ok-g.ensures _ _ c.in_ok-answer.ensures c.hand_back.ensures
