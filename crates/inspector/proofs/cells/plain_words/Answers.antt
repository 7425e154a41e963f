use Prim.Native.Nat.{◌+◌, ◌-◌}
use native.Mathlib.Omega.{arith}
use lib.ListN.{take, drop}
use Rattle.std.proofs.Common.{◌≡◌, ◌∙◌, rules, tests}
use Rattle.std.proofs.lemmas.Iterator.{YieldsList-from_slice}
use Rattle.std.proofs.lemmas.Iterator.Search.{all_from_yields_List}
use mathlib.Core.Path.{ap}
use mathlib.Core.Bool.{not}
use Rattle.std.specs.List.{list_all}
use Rattle.word.specs.Layout.{flag_of}
use Rattle.inspector.proofs.Arrays.{part_plain}
use Rattle.inspector.proofs.cells.plain_words.Goals as goal

pub returns : goal.returns
returns c =
    let k : c.args.a + c.args.n - c.args.a ≡ c.args.n = omega arith in
    all_from_yields_List {all = take (c.args.a + c.args.n - c.args.a) (drop c.args.a c.args.core.now)} (λ w. not (flag_of w)) _ _ _ c.all.ensures.ran (YieldsList-from_slice _ cc) (λ x b q k. search (rules, tests))
    ∙ ap (λ m. list_all (λ w. not (flag_of w)) (take m (drop c.args.a c.args.core.now))) k
    ∙ part_plain _ _ _ c.requires
