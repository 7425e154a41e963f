use Rattle.std.proofs.Common.{rules, ◌≡◌, ◌∙◌, get_or, map}
use lib.Chars.{codes}
use lib.ListN.{get_or-map}
use Rattle.wording.specs.Names.{names, name_of}
use Rattle.wording.proofs.names.name_of.Goals as goal

-- The names of the definition are those of the code's table: antt computes all 40 and compares.
pub returns : goal.returns
unfolding name_of
returns c =
    let e : c.unwrap_or.result ≡ get_or (map codes names) c.args.number (codes "----") = search rules in
    e ∙ get_or-map codes names c.args.number "----"
