use Rattle.std.proofs.Common.{rules, ◌≡◌}
use Rattle.std.proofs.lemmas.Slice.Eq.{text_from_reads}
use lib.Chars.{codes}
use Rattle.word.specs.Choices.{if◌then◌otherwise◌}
use Rattle.wording.specs.Commands.{command_of}
use Rattle.wording.proofs.commands.command_of.Goals as goal

pub returns-in-inspect : goal.returns-in-inspect
unfolding command_of if◌then◌otherwise◌
returns-in-inspect c =
    let e : c.args.text.now ≡ codes "inspect" = text_from_reads c.args.text.now (codes "inspect") (search rules) (search rules) in
    rw e c.counted-in-inspect.ensures
