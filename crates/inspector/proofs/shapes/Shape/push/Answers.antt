use Rattle.inspector.proofs.Stacks.{put, put_not}
use borrow.Author.Rules.{rules}
use Rattle.inspector.proofs.shapes.Shape.push.Goals as goal

pub returns-then-self : goal.returns-then-self
returns-then-self c = put _ _ _ _ c.self.view_is c.self.invariant.0 _ c.if-self.true (search rules)

pub returns : goal.returns
returns c = put_not _ _ _ _ c.self.view_is c.self.invariant.0 _ c.if-self.false
