use mathlib.Core.Path.{sym}
use Rattle.machine.proofs.Sprinting.{quick_as, at_hand, call_operand, call_raised}
use Rattle.machine.proofs.quick.operand.Goals as goal

pub returns-then-flag : goal.returns-then-flag
returns-then-flag c =
    let a = at_hand c.k_address.result c.k_address.ensures.same c.in_ok-m.ensures.value in
    quick_as c.args.core.now c.args.g c.flagged.result (call_raised _ _ c.args.t _ _ _ (sym c.if-both_full.ensures) a) (c.flagged.ensures c.args.g _)

pub returns : goal.returns
returns c =
    let a = at_hand c.k_address.result c.k_address.ensures.same c.in_ok-m.ensures.value in
    quick_as c.args.core.now c.args.g c.filled.result (call_operand _ _ c.args.t _ _ _ (sym c.if-both_full.ensures) a (sym c.if-flag.ensures)) (c.filled.ensures c.args.core.now c.args.g)
