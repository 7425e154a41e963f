use lib.ListN.{take}
use mathlib.Core.Path.{◌≡◌}
use Prim.Native.Nat.{◌*◌}
use Rattle.tape.specs.Files.{bytes_of}
use Rattle.tape.proofs.writing.spread.Given as goal

abbrev pub invariant-loop-i : goal.invariant-loop-i
invariant-loop-i l = take (6 * l.i) l.room ≡ bytes_of (take l.i l.core)
