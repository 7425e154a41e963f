use Rattle.std.proofs.Common.{rules}
use Rattle.machine.specs.Steps.{operate_of}
use Rattle.machine.specs.Arithmetics.{reckon_of, relate_of}
use Rattle.machine.specs.ForCode.Sprints.{upon}
use Rattle.machine.proofs.Endings.{operates}
use Rattle.machine.proofs.Sprinting.{at_hand, hurries_reads}
use Rattle.machine.proofs.quick.hurry.Goals as goal

pub returns-in-Arithmetic : goal.returns-in-Arithmetic
unfolding operate_of
returns-in-Arithmetic c =
    let f = c.both.ensures (reckon_of c.in-Arithmetic.a) (search rules) in
    let a = at_hand c.read.result c.read.ensures c.in_ok-w.ensures.value in
    let e = operates c.args.core.now (upon c.args.g c.args.t) _ _ a c.syllable_at.ensures c.read-s.ensures c.advance-p.ensures c.in-Operator.is in
    rw (e, c.in-Arithmetic.is) (hurries_reads c.both.result (f c.args.core.now c.args.g))

pub returns-in-Relation : goal.returns-in-Relation
unfolding operate_of
returns-in-Relation c =
    let f = c.both-in-Relation.ensures (relate_of c.in-Relation.r) (search rules) in
    let a = at_hand c.read.result c.read.ensures c.in_ok-w.ensures.value in
    let e = operates c.args.core.now (upon c.args.g c.args.t) _ _ a c.syllable_at.ensures c.read-s.ensures c.advance-p.ensures c.in-Operator.is in
    rw (e, c.in-Relation.is) (hurries_reads c.both-in-Relation.result (f c.args.core.now c.args.g))
