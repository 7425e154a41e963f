use Rattle.inspector.proofs.Stacks.{kept}
use Rattle.inspector.proofs.shapes.Shape.unchanged.Goals as goal

pub returns : goal.returns
returns c = kept _ _ _ _ c.self.view_is c.self.invariant.0
