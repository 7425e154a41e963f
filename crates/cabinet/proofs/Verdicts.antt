-- The inspector's verdict: from words to bytes.
use Prim.Native.Nat.{ℕ}
use mathlib.Core.Path.{◌≡◌}
use mathlib.Core.List.{List}
use borrow.Author.Tests.{eq-eqb, ne_eqb}
use lib.ListN.{length}
use Rattle.std.specs.declared.result.Result.{Result}
use Rattle.std.specs.declared.result.Result.TheVariants.{Ok, Err}
use Rattle.word.specs.Choices.{if◌then◌otherwise◌}
use Rattle.inspector.specs.declared.verdict.Broken.{Broken}
use Rattle.inspector.specs.Verdicts.{Verdict, verdict_of, verdict_by}
use Rattle.tape.specs.declared.errors.ReadError.{ReadError}
use Rattle.tape.specs.Files.{read_error_number}
use Rattle.cabinet.specs.declared.refused.Refused.{Refused}
use Rattle.cabinet.specs.Lengths.{core_number_of}
use Rattle.cabinet.specs.Inspections.{inspect_bytes_of}
use Rattle.cabinet.specs.ForCode.Refusals.{by_file, by_inspector, inspected_by}
use Rattle.cabinet.specs.ForCode.Rooms.{words_read}
use Rattle.cabinet.proofs.Readings.{Filled, filled, unread, positive}

module _ (core sheet : List ℕ) where
  pub verdict_unread : {why : ReadError} → Err why ≡ words_read core → {x : Result (Unit {0}) Refused} → x ≡ Err (by_file why) → inspected_by x ≡ inspect_bytes_of core sheet
  unfolding inspect_bytes_of if◌then◌otherwise◌
  verdict_unread {why} e s = rw (s, ← unread core e, ne_eqb (read_error_number why) 0 (positive why))

  module _ {words : List ℕ} (read : Ok words ≡ words_read core) where
    pub verdict_read : {v : Verdict} → v ≡ verdict_of words sheet → v ≡ inspect_bytes_of core sheet
    unfolding inspect_bytes_of if◌then◌otherwise◌
    verdict_read e =
        let full : Filled core words = filled core read in
        rw (eq-eqb (core_number_of (length core)) 0 full.good, ← full.said) e

    pub verdict_broken : (b : Broken) → verdict_by (Err b) ≡ verdict_of words sheet → {x : Result (Unit {0}) Refused} → x ≡ Err (by_inspector b) → inspected_by x ≡ inspect_bytes_of core sheet
    verdict_broken b e s = rw s (verdict_read e)
