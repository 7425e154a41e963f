use Rattle.std.proofs.Common.{rules}
use mathlib.Core.Path.{refl}
use Rattle.word.specs.Choices.{if◌then◌otherwise◌}
use Rattle.cabinet.specs.ForCode.Rooms.{mark_by}
use Rattle.cabinet.proofs.Marks.{mark_past}
use Rattle.cabinet.proofs.rows.mark.Goals as goal

pub returns-in-0 : goal.returns-in-0
unfolding mark_by if◌then◌otherwise◌
returns-in-0 c = rw c.in-0.is refl

pub returns-in-1 : goal.returns-in-1
unfolding mark_by if◌then◌otherwise◌
returns-in-1 c = rw c.in-1.is refl

pub returns-in_default : goal.returns-in_default
returns-in_default c = mark_past (search rules) (search rules)
