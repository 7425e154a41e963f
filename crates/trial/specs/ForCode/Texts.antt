-- A line on its way into the room.
use Rattle.std.specs.Prelude.{ℕ, List, take}
use Rattle.trial.specs.declared.lines.Text.{Text}

-- What is written of it so far.
abbrev pub text_of : Text → List ℕ
text_of t = take t.end t.chars
