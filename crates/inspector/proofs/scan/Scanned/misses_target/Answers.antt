use Rattle.inspector.proofs.Goings.{quiet}
use Rattle.inspector.proofs.scan.Scanned.misses_target.Goals as goal

pub returns-in_default : goal.returns-in_default
returns-in_default c = quiet c.args.self.now.marks.now _ _ _ _ c.args.self.now.passed c.args.self.now.marked c.requires (λ k e. c.in_default.not-Literal k e)
