-- The printed rules in their order, and the inspector's answer: the first that is broken, at its lowest place.
use Rattle.std.specs.Prelude.{ℕ, zero, suc, ◌*◌, Bool, true, false, not, List, [], ◌∷◌}
use Rattle.inspector.specs.declared.verdict.Broken.{Broken}
use Rattle.inspector.specs.declared.verdict.Broken.TheVariants.{Core, Length, Record, Area, Cell, Syllable, Target}
use Rattle.std.specs.declared.result.Result.{Result}
use Rattle.std.specs.declared.result.Result.TheVariants.{Ok, Err}
use Rattle.sheet.specs.Sheets.{entries, code_words_of, table_of}
use Rattle.inspector.specs.Areas.{astray}
use Rattle.inspector.specs.Cells.{unfit}
use Rattle.inspector.specs.Scan.{breaks_at}
use Rattle.inspector.specs.Targets.{misses_target}
use Rattle.inspector.specs.Records.{sheet_fits, record_good}
use Rattle.word.specs.Core.{length_fits, words_fit, core_error_number}

-- A printed rule: its number, how many places it has, and where it is broken.
pub record Rule : Type 0 where
  pub number : ℕ
  pub places : ℕ
  pub broken : ℕ → Bool

-- "After 1 and 2, in order: 30, .. 31, first bad record. 32, .. 33, .. 34, .. 35"; "the place is 0 with 0, 1, 2 and 30".
abbrev pub rules : List ℕ → List ℕ → List Rule
rules core sheet =
    record { number = 1; places = 1; broken = λ i. not (length_fits core) } ∷
    record { number = 2; places = 1; broken = λ i. not (words_fit core) } ∷
    record { number = 30; places = 1; broken = λ i. not (sheet_fits sheet) } ∷
    record { number = 31; places = entries sheet; broken = λ i. not (record_good sheet i) } ∷
    record { number = 32; places = 3; broken = astray core sheet } ∷
    record { number = 33; places = table_of sheet; broken = unfit core sheet } ∷
    record { number = 34; places = 4 * code_words_of sheet; broken = breaks_at core sheet } ∷
    record { number = 35; places = 4 * code_words_of sheet; broken = misses_target core sheet } ∷
    []

-- The lowest place from i on, of n, at which a rule is broken.
pub data Found : Type 0 where
  at : ℕ → Found
  nowhere : Found

abbrev pub lowest : (ℕ → Bool) → ℕ → ℕ → Found
lowest broken zero i = nowhere
lowest broken (suc n) i = elim (broken i) [ true ↦ at i | false ↦ lowest broken n (suc i) ]

-- "The answer is a number and a place"
pub record Verdict : Type 0 where
  pub number : ℕ
  pub place : ℕ

-- "the place is 0 with 0"
abbrev pub given : ℕ → ℕ → Verdict
given n p = record { number = n; place = p }

abbrev pub blamed : ℕ → Found → Verdict → Verdict
blamed n (at p) rest = given n p
blamed n nowhere rest = rest

abbrev pub answer_of : List Rule → Verdict
answer_of [] = given 0 0
answer_of (r ∷ rs) = blamed r.number (lowest r.broken r.places 0) (answer_of rs)

unfoldable pub verdict_of : List ℕ → List ℕ → Verdict
verdict_of core sheet = answer_of (rules core sheet)

-- "After 1 and 2, in order: 30, .. 31, .. 32, .. 33, .. 34, .. 35"
abbrev pub broken_number : Broken → ℕ
broken_number (Core e) = core_error_number e
broken_number Length = 30
broken_number (Record i) = 31
broken_number (Area i) = 32
broken_number (Cell c) = 33
broken_number (Syllable i) = 34
broken_number (Target i) = 35

-- "the place is 0 with 0, 1, 2 and 30"
abbrev pub broken_place : Broken → ℕ
broken_place (Core e) = 0
broken_place Length = 0
broken_place (Record i) = i
broken_place (Area i) = i
broken_place (Cell c) = c
broken_place (Syllable i) = i
broken_place (Target i) = i

-- The number and the place that an answer stands for.
abbrev pub verdict_by : Result (Unit {0}) Broken → Verdict
verdict_by (Ok x) = given 0 0
verdict_by (Err b) = given (broken_number b) (broken_place b)
