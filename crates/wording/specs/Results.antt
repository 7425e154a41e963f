-- What a run is told by.
use Rattle.std.specs.Prelude.{ℕ, List, ◌||◌, eqb, get_or}
use Rattle.word.specs.Choices.{if◌then◌otherwise◌}
use Rattle.word.specs.Addresses.{cell_address}
use Rattle.wording.specs.declared.results.Status.{Status}
use Rattle.wording.specs.declared.results.Status.TheVariants.{Done, Refused, Undone, Short}

-- "COM: A full, store it at 64R+9"
abbrev pub communicated_of : List ℕ → ℕ → ℕ
communicated_of core r = get_or core (cell_address r 9) 0

-- A run that communicated or spent its budget, or one that stopped otherwise.
unfoldable pub stop_status : ℕ → ℕ
stop_status stop = if eqb stop 0 || eqb stop 17 then 0 otherwise 3

-- 1 for a refusal by number, else by the stop.
unfoldable pub status_of : ℕ → ℕ → ℕ
status_of number stop = if eqb number 0 then stop_status stop otherwise 1

-- The numbers of the statuses, as the runner's help tells them.
abbrev pub status_number : Status → ℕ
status_number Done = 0
status_number Refused = 1
status_number Undone = 2
status_number Short = 3
