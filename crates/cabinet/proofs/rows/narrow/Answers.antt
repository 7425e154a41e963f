use Rattle.cabinet.proofs.Marks.{narrowed_to}
use Rattle.cabinet.proofs.rows.narrow.Goals as goal

pub returns : goal.returns
returns c = narrowed_to _ _ _ c.try_from.ensures c.unwrap_or.ensures
