-- What the machine left is written over all the bytes, since a fit state stays fit; a refusal leaves them.
use Prim.Native.Nat.{ℕ, ◌*◌, ◌≤◌}
use mathlib.Core.Path.{◌≡◌, refl, sym, ◌∙◌, ap}
use mathlib.Core.Logic.{◌⊎◌, inl, inr}
use mathlib.Core.Bool.{Bool, true, false, true≢false}
use mathlib.Core.List.{List}
use native.Mathlib.Omega.{arith}
use borrow.Author.Tests.{eq-eqb, ne_eqb, eqb-true, lt-ltb, le-ltb}
use lib.Dec.{eqb, leb}
use lib.ListN.{length}
use Rattle.std.specs.declared.result.Result.{Result}
use Rattle.std.specs.declared.result.Result.TheVariants.{Ok, Err}
use Rattle.word.specs.Core.{length_fits, words_fit}
use Rattle.machine.specs.declared.outcome.Registers.{Registers}
use Rattle.machine.specs.declared.outcome.Answer.{Answer}
use Rattle.machine.specs.declared.outcome.End.{End}
use Rattle.machine.specs.declared.outcome.Ran.{Ran}
use Rattle.machine.specs.declared.outcome.Refusal.{Refusal}
use Rattle.word.specs.Choices.{if◌then◌otherwise◌}
use Rattle.machine.specs.States.{state_of}
use Rattle.machine.specs.Steps.{registers_fit, refusal_of, Stepped, ended_as, execute_of, step_of, answered, end_number, refusal_number}
use Rattle.machine.specs.Runs.{Run, ends_at, run_from, run_of, ran_of}
use Rattle.laws.specs.Fit.{Fit}
use Rattle.laws.proofs.FitChecks.{fit_refusal}
use Rattle.laws.proofs.FitSteps.{step_fit, step_length}
use Rattle.laws.proofs.FitRuns.{run_fit, run_length}
use Rattle.laws.proofs.Numbers.{end_from, refusal_within}
use Rattle.tape.specs.Files.{words_of, bytes_of, read_error_number, write_file_of}
use Rattle.tape.proofs.Backs.{length_fits_is}
use Rattle.tape.proofs.Numbers.{write_fits}
use Rattle.tape.proofs.Bytes.{write_yes}
use Rattle.tape.specs.declared.errors.ReadError.{ReadError}
use Rattle.cabinet.specs.declared.refused.Refused.{Refused}
use Rattle.cabinet.specs.Rows.{row_of, set_of, row_number_of}
use Rattle.cabinet.specs.Crossings.{step_bytes, refuses, step_back_of, step_bytes_of, run_bytes, run_back_of, run_bytes_of}
use Rattle.cabinet.specs.ForCode.Refusals.{by_file, by_machine, step_by, run_by}
use Rattle.cabinet.specs.ForCode.Rooms.{Back, words_read, set_read}
use Rattle.cabinet.proofs.Readings.{Filled, filled, unread, positive}
use Rattle.cabinet.proofs.Sets.{Taken, taken, untaken, row_first, row_words, row_length}
use Rattle.cabinet.proofs.NarrowSets.{narrowed}

-- ---- a number that does not refuse

refusal_refuses : (core : List ℕ) (g : Registers) → (refusal_of core g ≡ 0 → ⊥) → refuses (refusal_of core g) ≡ true
unfolding refusal_of if◌then◌otherwise◌
refusal_refuses core g n = by (length_fits core) (words_fit core) (registers_fit g) n
  where
    by : (a b c : Bool) → (◌≡◌ {A = ℕ} (if a then (if b then (if c then 0 otherwise 3) otherwise 2) otherwise 1) 0 → ⊥) → refuses (if a then (if b then (if c then 0 otherwise 3) otherwise 2) otherwise 1) ≡ true
    by true true true n = absurd (n refl)
    by true true false n = refl
    by true false c n = refl
    by false b c n = refl

refused_not : {A : Type 0} (core : List ℕ) (g : Registers) → eqb (refusal_of core g) 0 ≡ false → refuses (refusal_of core g) ≡ false → A
refused_not core g e f =
    absurd (true≢false (sym (refusal_refuses core g (λ z. true≢false (sym (eq-eqb (refusal_of core g) 0 z) ∙ e))) ∙ f))

step_accepted : (core : List ℕ) (g : Registers) → refuses (step_of core g).number ≡ false → refusal_of core g ≡ 0
unfolding step_of if◌then◌otherwise◌
step_accepted core g f = by (eqb (refusal_of core g) 0) refl f
  where
    by : (b : Bool) → eqb (refusal_of core g) 0 ≡ b
        → refuses (if b then ended_as (execute_of (state_of core g)) (state_of core g) otherwise record { number = refusal_of core g; core = core; regs = g }).number ≡ false → refusal_of core g ≡ 0
    by true e f = eqb-true (refusal_of core g) 0 e
    by false e f = refused_not core g e f

run_accepted : (core : List ℕ) (g : Registers) (budget : ℕ) → refuses (run_of core g budget).stop ≡ false → refusal_of core g ≡ 0
unfolding run_of if◌then◌otherwise◌
run_accepted core g budget f = by (eqb (refusal_of core g) 0) refl f
  where
    by : (b : Bool) → eqb (refusal_of core g) 0 ≡ b
        → refuses (if b then (if leb budget 1000000 then run_from budget (state_of core g) otherwise ends_at 5 0 (state_of core g)) otherwise ends_at (refusal_of core g) 0 (state_of core g)).stop ≡ false → refusal_of core g ≡ 0
    by true e f = eqb-true (refusal_of core g) 0 e
    by false e f = refused_not core g e f

-- ---- what is written

end_accepted : (e : End) → refuses (end_number e) ≡ false
end_accepted e = by (end_from e)
  where
    by : (end_number e ≡ 0) ⊎ (11 ≤ end_number e) → refuses (end_number e) ≡ false
    by (inl z) = rw z refl
    by (inr h) = rw (lt-ltb 0 (end_number e) (omega arith), le-ltb (end_number e) 11 h)

refusal_refused : (n : Refusal) → refuses (refusal_number n) ≡ true
refusal_refused n = rw (lt-ltb 0 (refusal_number n) (refusal_within n).0, lt-ltb (refusal_number n) 11 (omega (arith, refusal_within n)))

pub fit_parts : (core : List ℕ) (g : Registers) → refusal_of core g ≡ 0 → (length_fits core ≡ true) × (words_fit core ≡ true)
unfolding refusal_of if◌then◌otherwise◌
fit_parts core g e = by (length_fits core) (words_fit core) (registers_fit g) e
  where
    by : (a b c : Bool) → ◌≡◌ {A = ℕ} (if a then (if b then (if c then 0 otherwise 3) otherwise 2) otherwise 1) 0 → (a ≡ true) × (b ≡ true)
    by true true c e = (refl, refl)
    by true false c e = absurd (omega arith)
    by false b c e = absurd (omega arith)

core_written : (words core : List ℕ) (g : Registers) → refusal_of words g ≡ 0 → length core ≡ 6 * length words → write_file_of words core ≡ bytes_of words
core_written words core g e l =
    let p : (length_fits words ≡ true) × (words_fit words ≡ true) = fit_parts words g e in
    sym (write_yes words core (sym (write_fits words (length core) p.0 p.1 l)) refl)

row_written : (words regs : List ℕ) (g : Registers) → refusal_of words g ≡ 0 → length regs ≡ 66 → write_file_of (row_of g) regs ≡ bytes_of (row_of g)
row_written words regs g e l =
    let f : Fit (state_of words g) = (fit_refusal words g).0 e in
    let n : length (row_of g) ≡ 11 = row_length g in
    sym (write_yes (row_of g) regs (sym (write_fits (row_of g) (length regs) (length_fits_is (row_of g) (omega arith) (omega arith)) (row_words g f.regs) (omega arith))) refl)

-- A fit state, handed back, is all the bytes.
pub handed_back : (words : List ℕ) {core core' regs regs' : List ℕ} (g : Registers) → refusal_of words g ≡ 0 → length core ≡ 6 * length words → length regs ≡ 66 → Back words g core core' regs regs'
    → (core' ≡ bytes_of words) × (regs' ≡ bytes_of (row_of g))
handed_back words {core} {regs = regs} g e l r h = (h.words_back ∙ core_written words core g e l, h.set_back ∙ row_written words regs g e r)

-- ---- a step

step_away : (words core regs : List ℕ) (g : Registers) → (refusal_of words g ≡ 0 → ⊥) → step_back_of (step_of words g) core regs ≡ step_bytes (refusal_of words g) core regs
unfolding step_of step_back_of if◌then◌otherwise◌
step_away words core regs g n = rw (ne_eqb (refusal_of words g) 0 n, refusal_refuses words g n)

module _ (core regs : List ℕ) where
  pub step_unread : {why : ReadError} → Err why ≡ words_read core → {r : Result End Refused} → r ≡ Err (by_file why) → step_by r core regs ≡ step_bytes_of core regs
  unfolding step_bytes_of if◌then◌otherwise◌
  step_unread {why} e s = rw (s, ← row_first (length core) (unread core e) (positive why) regs, ne_eqb (read_error_number why) 0 (positive why))

  module _ {words : List ℕ} (read : Ok words ≡ words_read core) where
    full : Filled core words
    full = filled core read

    pub step_untaken : {why : Refusal} → Err why ≡ set_read regs → {r : Result End Refused} → r ≡ Err (by_machine why) → step_by r core regs ≡ step_bytes_of core regs
    unfolding step_bytes_of if◌then◌otherwise◌
    step_untaken e s = rw (s, (untaken (length core) full.good regs e).0, ← (untaken (length core) full.good regs e).1)

    module _ {g : Registers} (set : Ok g ≡ set_read regs) (words' : List ℕ) where
      got : Taken (length core) full.good regs g
      got = taken (length core) full.good regs set

      step_is : (r : Result Answer Refusal) → answered g r words' ≡ step_of words g → step_back_of (answered g r words') core regs ≡ step_bytes_of core regs
      unfolding step_bytes_of if◌then◌otherwise◌
      step_is r e =
          rw (e, eq-eqb (row_number_of (length core) regs) 0 got.number, ← full.said, got.set)
          (narrowed (λ (x : Registers). step_back_of (step_of words x) core regs) (λ (k : ℕ). step_bytes k core regs) words (set_of (words_of 11 regs)) (step_away words core regs))

      pub step_refused : (why : Refusal) → answered g (Err why) words' ≡ step_of words g → {r : Result End Refused} → r ≡ Err (by_machine why) → step_by r core regs ≡ step_bytes_of core regs
      unfolding step_back_of if◌then◌otherwise◌
      step_refused why e s = rw s (rw (refusal_refused why) refl ∙ step_is (Err why) e)

      pub step_ended : (a : Answer) → answered g (Ok a) words' ≡ step_of words g → {core' regs' : List ℕ} → Back words' a.regs core core' regs regs'
          → step_bytes (end_number a.end) core' regs' ≡ step_bytes_of core regs
      unfolding step_back_of if◌then◌otherwise◌
      step_ended a e h =
          let z : refusal_of words g ≡ 0 = step_accepted words g (ap (λ (s : Stepped). refuses s.number) (sym e) ∙ end_accepted a.end) in
          let l : length words' ≡ length words = ap (λ (s : Stepped). length s.core) e ∙ step_length words g z in
          let back = handed_back words' a.regs (ap (λ (s : Stepped). refusal_of s.core s.regs) e ∙ step_fit words g z) (omega (arith, full.exact, l)) got.row h in
          rw (back.0, back.1) (rw (end_accepted a.end) refl ∙ step_is (Ok a) e)

-- ---- a run

run_away : (words core regs : List ℕ) (budget : ℕ) (g : Registers) → (refusal_of words g ≡ 0 → ⊥) → run_back_of (run_of words g budget) core regs ≡ run_bytes (refusal_of words g) core regs 0
unfolding run_of run_back_of step_back_of if◌then◌otherwise◌
run_away words core regs budget g n = rw (ne_eqb (refusal_of words g) 0 n, refusal_refuses words g n)

module _ (core regs : List ℕ) (budget : ℕ) where
  pub run_unread : {why : ReadError} → Err why ≡ words_read core → {r : Result Ran Refused} → r ≡ Err (by_file why) → run_by r core regs ≡ run_bytes_of core regs budget
  unfolding run_bytes_of if◌then◌otherwise◌
  run_unread {why} e s = rw (s, ← row_first (length core) (unread core e) (positive why) regs, ne_eqb (read_error_number why) 0 (positive why))

  module _ {words : List ℕ} (read : Ok words ≡ words_read core) where
    filled_up : Filled core words
    filled_up = filled core read

    pub run_untaken : {why : Refusal} → Err why ≡ set_read regs → {r : Result Ran Refused} → r ≡ Err (by_machine why) → run_by r core regs ≡ run_bytes_of core regs budget
    unfolding run_bytes_of if◌then◌otherwise◌
    run_untaken e s = rw (s, (untaken (length core) filled_up.good regs e).0, ← (untaken (length core) filled_up.good regs e).1)

    module _ {g : Registers} (set : Ok g ≡ set_read regs) (words' : List ℕ) where
      had : Taken (length core) filled_up.good regs g
      had = taken (length core) filled_up.good regs set

      run_is : (r : Result Ran Refusal) → ran_of g r words' ≡ run_of words g budget → run_back_of (ran_of g r words') core regs ≡ run_bytes_of core regs budget
      unfolding run_bytes_of if◌then◌otherwise◌
      run_is r e =
          rw (e, eq-eqb (row_number_of (length core) regs) 0 had.number, ← filled_up.said, had.set)
          (narrowed (λ (x : Registers). run_back_of (run_of words x budget) core regs) (λ (k : ℕ). run_bytes k core regs 0) words (set_of (words_of 11 regs)) (run_away words core regs budget))

      pub run_refused : (why : Refusal) → ran_of g (Err why) words' ≡ run_of words g budget → {r : Result Ran Refused} → r ≡ Err (by_machine why) → run_by r core regs ≡ run_bytes_of core regs budget
      unfolding run_back_of step_back_of if◌then◌otherwise◌
      run_refused why e s = rw s (rw (refusal_refused why) refl ∙ run_is (Err why) e)

      pub run_ended : (x : Ran) → ran_of g (Ok x) words' ≡ run_of words g budget → {core' regs' : List ℕ} → Back words' x.regs core core' regs regs'
          → run_bytes (end_number x.end) core' regs' x.completed ≡ run_bytes_of core regs budget
      unfolding run_back_of step_back_of if◌then◌otherwise◌
      run_ended x e h =
          let z : refusal_of words g ≡ 0 = run_accepted words g budget (ap (λ (s : Run). refuses s.stop) (sym e) ∙ end_accepted x.end) in
          let l : length words' ≡ length words = ap (λ (s : Run). length s.core) e ∙ run_length words g budget z in
          let back = handed_back words' x.regs (ap (λ (s : Run). refusal_of s.core s.regs) e ∙ run_fit words g budget z) (omega (arith, filled_up.exact, l)) had.row h in
          rw (back.0, back.1) (rw (end_accepted x.end) refl ∙ run_is (Ok x) e)
