use lib.ListN.{take}
use mathlib.Core.Path.{◌≡◌}
use Rattle.tape.specs.Files.{words_of}
use Rattle.tape.proofs.reading.fill_core.Given as goal

abbrev pub invariant-loop-i : goal.invariant-loop-i
invariant-loop-i l = take l.i l.core ≡ words_of l.i l.bytes
