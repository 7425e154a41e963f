-- Paper 01's inspector examples, one table and one claim: code LITC 5, LITC 7, ADD, COM.
use mathlib.Core.Path.{◌≡◌, refl}
use mathlib.Core.List.{[], ◌∷◌, map}
use Rattle.inspector.specs.Records.{sheet_fits, record_good}
use Rattle.inspector.specs.Areas.{astray}
use Rattle.inspector.specs.Cells.{plain_words, array_fits, unfit}
use Rattle.inspector.specs.Scan.{shape_at, breaks_at}
use Rattle.inspector.specs.Targets.{misses_target}
use Rattle.inspector.specs.Verdicts.{given, verdict_of}
use Rattle.inspector.specs.ForTheorems.Examples.{example_core, example_sheet}
use Rattle.word.specs.Choices.{if◌then◌otherwise◌}
use Rattle.machine.specs.Branches.{landing_of}
use Rattle.syllable.specs.Decoding.{decode_of}
use Rattle.syllable.specs.Positions.{syllable_of}
use Rattle.word.specs.Core.{length_fits, words_fit}
use Rattle.word.specs.Layout.{array_in}
use Rattle.sheet.specs.Sheets.{cell_of}

-- "d=2 passes; d=1: 34 at syllable 1; cell 9 closed: 34 at 3."
pub examples :
    map (verdict_of example_core) (example_sheet 2 9 ∷ example_sheet 1 9 ∷ example_sheet 2 10 ∷ [])
    ≡ given 0 0 ∷ given 34 1 ∷ given 34 3 ∷ []
unfolding verdict_of length_fits words_fit sheet_fits record_good astray unfit cell_of array_fits array_in plain_words breaks_at shape_at misses_target landing_of if◌then◌otherwise◌ decode_of syllable_of
examples = refl
