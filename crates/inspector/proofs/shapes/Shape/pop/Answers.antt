use Rattle.inspector.proofs.Stacks.{popped}
use borrow.Author.Rules.{rules}
use Rattle.inspector.proofs.shapes.Shape.pop.Goals as goal

pub returns : goal.returns
returns c = popped _ _ _ _ c.self.view_is c.self.invariant.0 _ (search rules)
