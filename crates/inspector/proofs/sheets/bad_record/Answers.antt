use Rattle.std.proofs.Common.{rules}
use borrow.Author.Tests.{tests}
use mathlib.Core.Bool.{not}
use mathlib.Core.Path.{refl}
use Rattle.inspector.specs.Records.{record_good}
use Rattle.inspector.proofs.Finds.{found_in}
use Rattle.inspector.proofs.sheets.bad_record.Goals as goal

pub returns : goal.returns
returns c = found_in (λ i. not (record_good c.args.sheet.now i)) _ _ _ _ _ refl (search rules) c.find.ensures.ran (λ x q k. search (rules, tests)) (λ x q k. search (rules, tests))
