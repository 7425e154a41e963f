-- Each way out is one of a reading.
use native.Mathlib.Omega.{arith}
use borrow.Author.Rules.{rules}
use Rattle.tape.proofs.Numbers.{counted}
use Rattle.tape.proofs.Words.{file_refused, file_other, file_whole}
use Rattle.tape.proofs.reading.read_file.Goals as goal

pub returns-in_err-words : goal.returns-in_err-words
returns-in_err-words c = file_refused _ _ c.in_err-words.ensures (search rules)

pub returns-then-core-words : goal.returns-then-core-words
returns-then-core-words c = file_other _ _ c.in_ok-words.ensures c.if-core-words.true

pub fill_core-requires : goal.fill_core-requires
fill_core-requires c = omega (arith, counted _ c.in_ok-words.ensures)

pub returns : goal.returns
returns c = file_whole _ _ c.in_ok-words.ensures c.if-core-words.false c.fill_core.ensures
