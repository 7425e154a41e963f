use lib.ListN.{drop}
use mathlib.Core.List.{◌++◌}
use mathlib.Core.Path.{◌≡◌}
use Prim.Native.Nat.{◌+◌}
use Rattle.trial.specs.Lines.{spelled_of}
use Rattle.trial.specs.ForCode.Texts.{text_of}
use Rattle.trial.proofs.lines.Text.spell.Given as goal

abbrev pub invariant-loop-d : goal.invariant-loop-d
invariant-loop-d l = (text_of l.self ++ spelled_of (drop l.d-index l.ds) l.after ≡ text_of l.initial.self ++ spelled_of l.ds l.after) × (l.self.end ≡ l.initial.self.end + l.d-index)
