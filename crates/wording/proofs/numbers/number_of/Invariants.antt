use Prim.Native.Nat.{◌+◌, ◌≤◌}
use mathlib.Core.Path.{◌≡◌}
use lib.ListN.{drop}
use Rattle.wording.specs.FromText.{from_text_of}
use Rattle.wording.specs.ForCode.Readings.{read_from}
use Rattle.wording.proofs.numbers.number_of.Given as goal

abbrev pub invariant-loop-c : goal.invariant-loop-c
invariant-loop-c l = record {
  held : l.n ≤ l.most + 1;
  reads : from_text_of l.text l.base l.most ≡ read_from l.base l.most l.n (drop l.c-index l.text);
}
