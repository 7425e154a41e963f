use Rattle.std.proofs.Common.{rules}
use borrow.Author.Tests.{tests}
use mathlib.Core.Path.{refl}
use Rattle.inspector.specs.Cells.{unfit}
use Rattle.inspector.proofs.Finds.{found_in}
use Rattle.inspector.proofs.cells.unfit.Goals as goal

pub returns : goal.returns
returns c = found_in (unfit c.args.segment.now.core.now c.args.segment.now.sheet.now) _ _ _ _ _ refl (search rules) c.find.ensures.ran (λ x q k. search (rules, tests)) (λ x q k. search (rules, tests))
