-- The laws are those of `Readings`.
use Rattle.std.proofs.Common.{rules}
use Rattle.cabinet.proofs.Readings.{none_read, whole, none_other, all_read}
use Rattle.cabinet.proofs.rooms.read_in.Goals as goal

pub returns-in_err-count : goal.returns-in_err-count
returns-in_err-count c = none_read _ c.in_err-count.ensures (search rules)

pub slice_bounds-words-end : goal.slice_bounds-words-end
slice_bounds-words-end c = (whole _ c.in_ok-count.ensures).few

pub returns-in_err-read_file : goal.returns-in_err-read_file
returns-in_err-read_file c = none_other _ _ (search rules) c.in_ok-count.ensures _ c.in_err-read_file.ensures

pub returns : goal.returns
returns c = all_read _ _ (search rules) c.in_ok-count.ensures c.in_ok-read_file.ensures
