-- `listed` meets its contract: antt computes the rule at all 4,096 syllables and compares: the table's one test.
-- Assumes nothing.
use mathlib.Core.Path.{refl}
use Rattle.syllable.specs.Numbers.{operator_number, operator_numbers}
use Rattle.syllable.proofs.tables.listed.Goals as goal

pub returns : goal.returns
unfolding operator_number operator_numbers
returns c = refl
