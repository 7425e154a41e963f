-- The bounds lie in core, the empty ones too, so the part is there; it is the stretch, in its place.
use native.Mathlib.Omega.{arith}
use Rattle.handout.proofs.Parts.{part_in, part_words, part_place}
use Rattle.handout.proofs.hand_out.Goals as goal

pub overflow_add-result : goal.overflow_add-result
overflow_add-result c = omega (arith, part_in _ _ _ c.hand_out_bounds-start.ensures, c.well_formed.0)

pub offset_bounds-core-start : goal.offset_bounds-core-start
offset_bounds-core-start c = omega (arith, part_in _ _ _ c.hand_out_bounds-start.ensures, c.well_formed.0)

pub slice_bounds-result-end : goal.slice_bounds-result-end
slice_bounds-result-end c = part_in _ _ _ c.hand_out_bounds-start.ensures

pub returns : goal.returns
returns c =
    let e = c.hand_out_bounds-start.ensures in
    record { words = part_words _ _ _ e; place = part_place _ _ _ e _ _ }
