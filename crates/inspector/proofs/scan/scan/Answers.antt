use Rattle.std.proofs.Common.{rules}
use mathlib.Core.Path.{sym, ◌∙◌}
use Rattle.inspector.specs.Scan.{breaks_at}
use Rattle.inspector.proofs.Goings.{going_none, going_more}
use Rattle.inspector.proofs.Finds.{lowest_at, lowest_none}
use Rattle.inspector.proofs.scan.scan.Goals as goal

pub loop-i-init : goal.loop-i-init
loop-i-init c = going_none _ _ _ (search rules) (search rules)

pub returns-then-breaks_at-clause-found : goal.returns-then-breaks_at-clause-found
returns-then-breaks_at-clause-found c = lowest_at (breaks_at c.args.segment.now.core.now c.args.segment.now.sheet.now) _ _ (search rules) (sym c.breaks_at.ensures.broken ∙ c.if-breaks_at.true) c.loop-i.invariant.passed.passed

pub loop-i-preserved : goal.loop-i-preserved
loop-i-preserved c = going_more _ _ _ _ _ _ _ (search rules) c.mark.ensures (sym c.breaks_at.ensures.broken ∙ c.if-breaks_at.false) (c.breaks_at.ensures.next c.if-breaks_at.false) c.loop-i.invariant

pub returns-clause-found : goal.returns-clause-found
returns-clause-found c = lowest_none (breaks_at c.args.segment.now.core.now c.args.segment.now.sheet.now) _ (λ k h. c.loop-i.invariant.passed.passed k (search rules))
