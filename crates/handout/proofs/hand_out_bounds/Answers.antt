-- What stands there, or the empty stretch.
use Rattle.handout.proofs.Handing.{stands}
use Rattle.handout.proofs.hand_out_bounds.Goals as goal

pub returns : goal.returns
returns c = stands _ _ _ _ c.stretch_at.ensures c.unwrap_or.ensures
