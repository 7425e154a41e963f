-- Mark by mark.
use Rattle.std.proofs.Common.{rules}
use Rattle.cabinet.proofs.Marks.{first_off, second_off, third_off, fourth_off, all_on, narrowed_to}
use Rattle.cabinet.proofs.rows.set_of.Goals as goal

pub returns-in_err-mark : goal.returns-in_err-mark
returns-in_err-mark c = first_off _ c.in_err-mark.ensures (search rules)

pub returns-in_err-mark-2 : goal.returns-in_err-mark-2
returns-in_err-mark-2 c = second_off _ c.in_ok-mark.ensures c.in_err-mark-2.ensures (search rules)

pub returns-in_err-mark-3 : goal.returns-in_err-mark-3
returns-in_err-mark-3 c = third_off _ c.in_ok-mark.ensures c.in_ok-mark-2.ensures c.in_err-mark-3.ensures (search rules)

pub returns-in_err-mark-4 : goal.returns-in_err-mark-4
returns-in_err-mark-4 c = fourth_off _ c.in_ok-mark.ensures c.in_ok-mark-2.ensures c.in_ok-mark-3.ensures c.in_err-mark-4.ensures (search rules)

pub returns : goal.returns
returns c =
    all_on _ c.in_ok-mark.ensures c.in_ok-mark-2.ensures c.in_ok-mark-3.ensures c.in_ok-mark-4.ensures
    c.narrow.ensures c.narrow-2.ensures c.narrow-3.ensures c.narrow-4.ensures (narrowed_to _ _ _ c.try_from.ensures c.unwrap_or.ensures)
