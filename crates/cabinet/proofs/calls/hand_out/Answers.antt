use mathlib.Core.Path.{refl}
use Rattle.std.proofs.Common.{rules}
use Rattle.cabinet.proofs.Readings.{none_counted}
use Rattle.cabinet.proofs.Stretches.{told_unread, told_none, told_some}
use Rattle.cabinet.proofs.calls.hand_out.Goals as goal

pub returns-in_err-words_in : goal.returns-in_err-words_in
returns-in_err-words_in c = told_unread _ _ _ (none_counted _ c.in_err-words_in.ensures) {x = c.from_residual.result} (search rules)

pub returns-in_err-words : goal.returns-in_err-words
returns-in_err-words c = told_unread _ _ _ c.in_err-words.ensures {x = c.from_residual-in_err-words.result} (search rules)

pub returns-in_err-stretch : goal.returns-in_err-stretch
returns-in_err-stretch c = told_none _ _ _ c.in_ok-words.ensures c.narrow.ensures c.narrow-2.ensures _ c.in_err-stretch.ensures {x = c.from_residual-in_err-stretch.result} (search rules)

pub returns : goal.returns
returns c = told_some _ _ _ c.in_ok-words.ensures c.narrow.ensures c.narrow-2.ensures _ c.in_ok-stretch.ensures refl
