use lib.ListN.{length-set}
use Rattle.word.proofs.Places.{fill_left, fill_more}
use Rattle.word.proofs.digits.Base.write.Goals as goal

pub loop-at-preserved : goal.loop-at-preserved
loop-at-preserved c =
    let w = c.loop-at.invariant in
    (simp length-set w.0, fill_left _ _ _ _ _ c.loop-at-test.true c.loop-at.auto.at w.1, fill_more _ _ _ _ _ _ c.loop-at-test.true c.loop-at.auto.at w.0 w.1 w.2)
