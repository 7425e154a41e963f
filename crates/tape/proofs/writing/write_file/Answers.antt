-- Each way out is one of a writing.
use borrow.Author.Rules.{rules}
use Rattle.tape.proofs.Bytes.{core_refused, room_other, core_whole}
use Rattle.tape.proofs.writing.write_file.Goals as goal

pub returns-in_err-check_core : goal.returns-in_err-check_core
returns-in_err-check_core c = core_refused _ _ c.in_err-check_core.ensures (search rules)

pub returns-then-room-core : goal.returns-then-room-core
returns-then-room-core c = room_other _ _ c.in_ok-check_core.ensures c.if-room-core.true

pub returns : goal.returns
returns c = core_whole _ _ c.in_ok-check_core.ensures c.if-room-core.false c.spread.ensures
