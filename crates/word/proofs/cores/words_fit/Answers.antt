use Rattle.std.proofs.Common.{◌^◌, ltb, ◌∙◌, rules, tests}
use Rattle.std.proofs.lemmas.Iterator.{YieldsList-from_slice}
use Rattle.std.proofs.lemmas.Iterator.Search.{all_from_yields_List}
use Rattle.word.proofs.Wholes.{words_all}
use Rattle.word.proofs.cores.words_fit.Goals as goal

pub returns : goal.returns
returns c = all_from_yields_List (λ w. ltb w (2 ^ 48)) _ _ _ c.all.ensures.ran (YieldsList-from_slice c.args.core.now cc) (λ x b q k. search (rules, tests)) ∙ words_all c.args.core.now
