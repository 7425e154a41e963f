use mathlib.Core.List.{◌∷◌}
use mathlib.Core.Path.{◌∙◌, ap, sym}
use Rattle.inspector.specs.Scan.{within, when}
use Rattle.inspector.specs.ForCode.Forms.{item_of, taken, shape_left}
use Rattle.inspector.proofs.Stacks.{called_number, called_array, called_empty, called_closed}
use Rattle.inspector.proofs.shapes.Shape.called_over.Goals as goal

pub returns-in-Number : goal.returns-in-Number
returns-in-Number c = record { left = c.push.ensures.left ∙ ap (within c.args.self.now.room) (called_number _ _ c.kind.ensures (item_of c.args.x) c.in-Number.is c.args.self.now.items); room = c.push.ensures.room }

pub returns-then-is_value : goal.returns-then-is_value
returns-then-is_value c =
    let e = called_array _ _ c.kind.ensures (item_of c.args.x) c.in-Array.is _ c.pop.new.self.items c.args.self.now.items (c.pop.ensures.items ∙ ap (λ r. taken r c.pop.new.self.items) c.in_ok-pop-in-Array.was) in
    let v = sym c.is_value.ensures ∙ c.if-is_value.true in
    record { left = cc (e, ap (λ b. when b (item_of c.args.x ∷ c.pop.new.self.items)) v); room = cc }

pub returns-else-is_value : goal.returns-else-is_value
returns-else-is_value c =
    let e = called_array _ _ c.kind.ensures (item_of c.args.x) c.in-Array.is _ c.pop.new.self.items c.args.self.now.items (c.pop.ensures.items ∙ ap (λ r. taken r c.pop.new.self.items) c.in_ok-pop-in-Array.was) in
    let v = sym c.is_value.ensures ∙ c.if-is_value.false in
    record { left = ap (within c.args.self.now.room) (sym (ap (λ b. when b (item_of c.args.x ∷ c.pop.new.self.items)) v) ∙ e); room = cc }

pub returns-in-Closed : goal.returns-in-Closed
returns-in-Closed c = record { left = ap (within c.args.self.now.room) (called_closed _ _ c.kind.ensures (item_of c.args.x) c.in-Closed.is c.args.self.now.items); room = cc }

pub returns-in_err-pop-in-Array : goal.returns-in_err-pop-in-Array
returns-in_err-pop-in-Array c = record { left = ap (λ r. shape_left r c.pop.new.self.items) c.from_residual.ensures ∙ ap (within c.args.self.now.room) (called_empty _ _ c.kind.ensures (item_of c.args.x) c.in-Array.is c.args.self.now.items (c.pop.ensures.items ∙ ap (λ r. taken r c.pop.new.self.items) c.in_err-pop-in-Array.was)); room = cc }
