-- The table is the listed one.
use Rattle.syllable.proofs.tables.Table.new.Goals as goal

pub invariant_of-result : goal.invariant_of-result
invariant_of-result c = record { listed = c.listed.ensures }
