use Rattle.std.proofs.Common.{rules, ◌≡◌, ◌+◌, ◌-◌, ◌*◌, sym, ◌∙◌, arith, get_or, drop-cons, add-one, false}
use Prim.Native.Nat.{min}
use borrow.Author.Tests.{lt-leb, le-leb, le-ltb}
use lib.ListN.{drop_of_length-le}
use Rattle.wording.specs.FromText.{is_digit}
use Rattle.wording.proofs.Readings.{read_none, read_start, read_wrong, read_more, read_in, read_over}
use Rattle.wording.proofs.numbers.number_of.Goals as goal
use Rattle.wording.proofs.numbers.number_of.Goals.{then-c-lt48-via-then-c-lt48, then-c-lt48-via-else-c-lt48+then-base-c}

pub returns-then-is_empty : goal.returns-then-is_empty
returns-then-is_empty c = read_none _ _ _ (search rules)

pub loop-c-init : goal.loop-c-init
loop-c-init c = record { held = omega arith; reads = read_start _ _ _ (search rules) }

pub returns-then-c-lt48 : goal.returns-then-c-lt48
returns-then-c-lt48 c =
    let w : is_digit c.args.base (get_or c.args.text.now c.loop-c.c-index 0) ≡ false =
    elim c.then-c-lt48.branch [
      | then-c-lt48-via-then-c-lt48 w ↦ rw (lt-leb 48 _ w.if-c-lt48.true)
      | then-c-lt48-via-else-c-lt48+then-base-c w ↦ rw (le-leb 48 _ w.if-c-lt48.false, le-ltb _ _ w.if-base-c.true)
    ] in
    sym (c.loop-c.invariant.reads ∙ rw (drop-cons c.args.text.now c.loop-c.c-index 0 c.loop-c-test.true) (read_wrong _ _ _ _ _ w))

pub loop-c-preserved : goal.loop-c-preserved
loop-c-preserved c =
    let e : c.min-n.result ≡ min (c.loop-c.n * c.args.base + (get_or c.args.text.now c.loop-c.c-index 0 - 48)) (c.args.most + 1) = cc in
    record {
      held = omega (arith, e);
      reads = c.loop-c.invariant.reads ∙ rw (add-one, drop-cons c.args.text.now c.loop-c.c-index 0 c.loop-c-test.true) (read_more _ _ _ _ _ _ c.if-c-lt48.false c.if-base-c.false e);
    }

pub returns-then-top-n : goal.returns-then-top-n
returns-then-top-n c = sym (c.loop-c.invariant.reads ∙ rw (drop_of_length-le c.args.text.now c.loop-c-test.false) (read_over _ c.args.most _ (omega arith)))

pub returns : goal.returns
returns c = sym (c.loop-c.invariant.reads ∙ rw (drop_of_length-le c.args.text.now c.loop-c-test.false) (read_in _ c.args.most _ (omega arith)))
