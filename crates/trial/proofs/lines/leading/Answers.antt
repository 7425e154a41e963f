-- The first digit that is not 0, by the search for it.
use mathlib.Core.Path.{◌∙◌}
use mathlib.Core.Bool.{not}
use lib.Dec.{eqb}
use borrow.Author.Rules.{rules}
use borrow.Author.Tests.{tests}
use Rattle.std.proofs.lemmas.Iterator.{YieldsList-from_slice}
use Rattle.std.proofs.lemmas.Iterator.Search.{position_from_yields_List}
use Rattle.trial.proofs.Texts.{leading_said}
use Rattle.trial.proofs.lines.leading.Goals as goal

pub returns : goal.returns
returns c =
    let e = position_from_yields_List (λ d. not (eqb d 0)) _ _ _ c.position.ensures.ran (YieldsList-from_slice c.args.ds.now cc) (λ x b q k. search (rules, tests)) in
    let h = leading_said c.args.ds.now (search rules) e in
    (c.unwrap_or.ensures ∙ h.0, rw (c.unwrap_or.ensures ∙ h.0) h.1)
