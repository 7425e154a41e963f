-- The runner's commands, by their words and how many arguments there are, the program's own name among them.
use Rattle.std.specs.Prelude.{ℕ, ◌||◌, List, ltb, codes}
use Rattle.std.specs.Str.{bytes_eq}
use Rattle.std.specs.declared.result.Result.{Result}
use Rattle.std.specs.declared.result.Result.TheVariants.{Ok, Err}
use Rattle.word.specs.Choices.{if◌then◌otherwise◌}
use Rattle.wording.specs.declared.commands.Command.{Command}
use Rattle.wording.specs.declared.commands.Command.TheVariants.{Run, Inspect, Help}
use Rattle.wording.specs.declared.commands.CommandError.{CommandError}
use Rattle.wording.specs.declared.commands.CommandError.TheVariants.{Unknown, Miscounted}

-- A command with `least` to `most` arguments.
unfoldable pub counted_of : Command → ℕ → ℕ → ℕ → Result Command CommandError
counted_of c count least most = if ltb count least || ltb most count then Err Miscounted otherwise Ok c

-- run CORE SHEET [BUDGET [OUTPUT]], inspect CORE SHEET, help.
unfoldable pub command_of : List ℕ → ℕ → Result Command CommandError
command_of text count =
    if bytes_eq text (codes "run") then counted_of Run count 4 6
    otherwise if bytes_eq text (codes "inspect") then counted_of Inspect count 4 4
    otherwise if bytes_eq text (codes "help") then Ok Help otherwise Err Unknown
