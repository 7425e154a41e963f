use Rattle.std.proofs.Common.{rules}
use Rattle.cabinet.proofs.Readings.{load_none, load_other, load_all}
use Rattle.cabinet.proofs.calls.load.Goals as goal

pub returns-in_err-words_in : goal.returns-in_err-words_in
returns-in_err-words_in c = load_none _ _ c.in_err-words_in.ensures (search rules)

pub returns-then-core-file : goal.returns-then-core-file
returns-then-core-file c = load_other _ _ c.in_ok-words_in.ensures c.if-core-file.true

pub returns : goal.returns
returns c = load_all _ _ c.in_ok-words_in.ensures c.if-core-file.false c.copy_from_slice.ensures.after
