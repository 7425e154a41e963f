-- Six bytes, the highest first, by the definition of a numeral.
use native.Mathlib.Omega.{arith}
use borrow.Author.Rules.{rules}
use Rattle.tape.proofs.Words.{six_said}
use Rattle.tape.proofs.reading.word_of.Goals as goal

pub returns : goal.returns
returns c = omega (arith, six_said c.args.bytes (search rules))
