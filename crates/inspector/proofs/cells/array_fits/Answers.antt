use Rattle.std.proofs.Common.{rules}
use mathlib.Core.Path.{sym, ◌∙◌}
use Rattle.inspector.proofs.Arrays.{in_core}
use Rattle.inspector.proofs.cells.array_fits.Goals.{then-array_in, else-array_in}
use Rattle.inspector.proofs.cells.array_fits.Goals as goal

pub plain_words-requires : goal.plain_words-requires
plain_words-requires c =
    elim c.if-array_in.branch [
      | then-array_in w ↦ rw (c.address-a.ensures, c.size-n.ensures) (in_core _ _ (sym c.array_in.ensures ∙ w.if-array_in.true))
      | else-array_in w ↦ absurd (search rules)
    ]
