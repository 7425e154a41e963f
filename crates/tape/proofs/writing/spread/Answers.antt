-- The invariant: the bytes of the first i words are written.
use mathlib.Core.Path.{refl, ◌∙◌}
use native.Mathlib.Omega.{arith}
use Rattle.tape.specs.Files.{bytes_of}
use Rattle.tape.proofs.Bytes.{six_written, spread_more, spread_end}
use Rattle.tape.proofs.writing.spread.Goals as goal

pub loop-i-init : goal.loop-i-init
unfolding bytes_of
loop-i-init c = refl

pub loop-i-preserved : goal.loop-i-preserved
loop-i-preserved c = spread_more _ _ _ c.loop-i-test.true (omega arith) c.loop-i.invariant (c.copy_from_slice.ensures.after ∙ rw c.to_be_bytes.ensures (six_written _))

pub returns : goal.returns
returns c = spread_end _ _ (omega arith) (omega arith) c.loop-i.invariant
