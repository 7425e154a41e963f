-- The inspection: the inspector's answer over bytes.
use Rattle.std.specs.Prelude.{ℕ, ◌/◌, List, eqb, length}
use Rattle.word.specs.Choices.{if◌then◌otherwise◌}
use Rattle.inspector.specs.Verdicts.{Verdict}
use Rattle.inspector.specs.Verdicts.{given, verdict_of}
use Rattle.tape.specs.Files.{words_of}
use Rattle.cabinet.specs.Lengths.{core_number_of}

-- 4 and 1 of the core's bytes, at place 0; then the verdict on its words and the sheet.
unfoldable pub inspect_bytes_of : List ℕ → List ℕ → Verdict
inspect_bytes_of core sheet =
    if eqb (core_number_of (length core)) 0 then verdict_of (words_of (length core / 6) core) sheet
    otherwise given (core_number_of (length core)) 0
