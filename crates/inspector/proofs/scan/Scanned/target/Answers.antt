use Rattle.std.proofs.Common.{rules}
use borrow.Author.Tests.{tests}
use mathlib.Core.Path.{refl}
use Rattle.inspector.specs.Targets.{misses_target}
use Rattle.inspector.proofs.Finds.{found_in}
use Rattle.inspector.proofs.scan.Scanned.target.Goals as goal

pub returns : goal.returns
returns c = found_in (misses_target c.args.self.now.segment.now.core.now c.args.self.now.segment.now.sheet.now) _ _ _ _ _ refl c.syllables.ensures.count c.find.ensures.ran (λ x q k. search (rules, tests)) (λ x q k. search (rules, tests))
