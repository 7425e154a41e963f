-- The invariant: the first i words are read.
use mathlib.Core.Path.{refl}
use native.Mathlib.Omega.{arith}
use Rattle.tape.specs.Files.{words_of}
use Rattle.tape.proofs.Words.{fill_more, fill_end}
use Rattle.tape.proofs.reading.fill_core.Goals as goal

pub loop-i-init : goal.loop-i-init
unfolding words_of
loop-i-init c = refl

pub loop-i-preserved : goal.loop-i-preserved
loop-i-preserved c = fill_more _ _ c.as_chunks.ensures.front (omega arith) (omega arith) c.loop-i.invariant c.word_of.ensures

pub returns : goal.returns
returns c = fill_end _ _ (omega arith) (omega arith) c.loop-i.invariant
