use Rattle.std.proofs.Common.{rules}
use Rattle.cabinet.proofs.Readings.{none_counted, some_counted}
use Rattle.cabinet.proofs.Postings.{post_unread, post_odd, post_refused, post_ended}
use Rattle.cabinet.proofs.calls.post.Goals as goal

pub returns-in_err-words_in : goal.returns-in_err-words_in
returns-in_err-words_in c = post_unread _ _ _ _ (none_counted _ c.in_err-words_in.ensures) {r = c.from_residual.result} (search rules)

pub returns-then-regs-ne66 : goal.returns-then-regs-ne66
returns-then-regs-ne66 c = rw c.from.ensures (post_odd _ _ _ _ (some_counted _ c.in_ok-words_in.ensures) c.if-regs-ne66.true)

pub returns-in_err-words : goal.returns-in_err-words
returns-in_err-words c = post_unread _ _ _ _ c.in_err-words.ensures {r = c.from_residual-in_err-words.result} (search rules)

pub returns-in_err-ran : goal.returns-in_err-ran
returns-in_err-ran c = post_refused _ _ _ _ c.in_ok-words.ensures c.if-regs-ne66.false _ _ c.in_err-ran.ensures {r = c.from_residual-in_err-ran.result} (search rules)

pub returns : goal.returns
returns c = post_ended _ _ _ _ c.in_ok-words.ensures c.if-regs-ne66.false _ _ c.in_ok-ran.ensures c.hand_back.ensures
