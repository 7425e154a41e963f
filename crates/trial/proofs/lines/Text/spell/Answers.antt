-- The invariant: what is to be spelled from the i-th digit on ends the text.
use native.Mathlib.Omega.{arith}
use Rattle.trial.specs.ForCode.Texts.{text_of}
use Rattle.trial.proofs.Texts.{spell_more, spell_end}
use Rattle.trial.proofs.lines.Text.spell.Goals as goal

pub loop-d-preserved : goal.loop-d-preserved
loop-d-preserved c = (spell_more c.args.ds.now (text_of c.loop-d.self) c.args.after c.loop-d.d-index (omega arith) c.loop-d.invariant.0 c.push.ensures.0, omega arith)

pub returns : goal.returns
returns c = (spell_end c.args.ds.now (text_of c.loop-d.self) c.args.after c.loop-d.d-index (omega arith) c.loop-d.invariant.0 c.push-2.ensures.0, omega arith)
