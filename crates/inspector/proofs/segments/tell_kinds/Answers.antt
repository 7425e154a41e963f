use Rattle.std.proofs.Common.{rules}
use Rattle.inspector.proofs.Paints.{filled_none, filled_more, filled_all}
use mathlib.Core.Path.{◌≡◌, refl, ap, ◌∙◌}
use lib.ListN.{length, replicate}
use Rattle.inspector.specs.declared.segments.Kind.TheVariants.{Closed}
use Rattle.inspector.specs.ForCode.Forms.{kind_told}
use Rattle.inspector.proofs.segments.tell_kinds.Goals as goal

pub loop-i-init : goal.loop-i-init
loop-i-init c =
    let sized : length c.args.kinds.now ≡ 1024 = search rules in
    (search rules, search rules, filled_none _ _ _ refl (c.fill.ensures.after (λ y e. search rules) ∙ ap (λ n. replicate n Closed) sized))

pub loop-i-preserved : goal.loop-i-preserved
loop-i-preserved c = (search rules, search rules, filled_more _ _ _ _ _ _ _ _ _ (search rules) c.loop-i.invariant.1 (ap (λ e. e.first) c.entry_at-e.ensures) (ap (λ e. e.count) c.entry_at-e.ensures) (c.kind_told.ensures ∙ ap (λ e. kind_told e.kind) c.entry_at-e.ensures) (search rules) (c.fill-in-loop-i.ensures.after (λ y e. search rules)) (search rules) (search rules) c.loop-i.invariant.2)

pub returns : goal.returns
returns c = filled_all _ _ _ (search rules) c.loop-i.invariant.2
