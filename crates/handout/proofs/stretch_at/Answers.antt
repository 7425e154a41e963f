-- Each way out is one of a hand-out.
use borrow.Author.Rules.{rules}
use Rattle.handout.proofs.Handing.{handed_core, handed_cell, handed_out, handed_unfit, handed_fits}
use Rattle.handout.proofs.stretch_at.Goals as goal

pub returns-in_err-check_core : goal.returns-in_err-check_core
returns-in_err-check_core c = handed_core _ _ _ c.in_err-check_core.ensures (search rules)

pub returns-then-r-ge512 : goal.returns-then-r-ge512
returns-then-r-ge512 c = handed_cell _ _ _ c.in_ok-check_core.ensures c.then-r-ge512.either

pub returns-in_err-w : goal.returns-in_err-w
returns-in_err-w c = handed_out _ _ _ c.in_ok-check_core.ensures c.if-r-ge512.false c.if-cell-ge1024.false (search rules) (search rules)

pub returns-then-not-array_in : goal.returns-then-not-array_in
returns-then-not-array_in c = handed_unfit _ _ _ c.in_ok-check_core.ensures c.if-not-array_in.ensures c.if-r-ge512.false c.if-cell-ge1024.false (search rules) (search rules)

pub returns : goal.returns
returns c = handed_fits _ _ _ _ c.in_ok-check_core.ensures c.if-not-array_in.ensures c.if-r-ge512.false c.if-cell-ge1024.false (search rules) (search rules) (search rules) (search rules)
