use mathlib.Core.Path.{◌∙◌}
use Rattle.cabinet.specs.Rows.{row_of}
use Rattle.cabinet.proofs.Marks.{mark_from}
use Rattle.cabinet.proofs.rows.row_of.Goals as goal

pub returns : goal.returns
unfolding row_of
returns c =
    rw (c.from.ensures ∙ mark_from _, c.from-2.ensures ∙ mark_from _, c.from-3.ensures, c.from-4.ensures, c.from-5.ensures, c.from-6.ensures, c.from-7.ensures, c.from-8.ensures ∙ mark_from _, c.from-9.ensures ∙ mark_from _)
