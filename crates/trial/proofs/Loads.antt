-- Laws of loading a file, and of the trial.
use Prim.Native.Nat.{ℕ, zero, suc, ◌-◌, ◌/◌, ◌%◌, ◌≤◌, ◌<◌}
use mathlib.Core.Path.{◌≡◌, sym, ◌∙◌, ap}
use mathlib.Core.List.{List, ◌++◌}
use native.Mathlib.Omega.{arith}
use borrow.Author.Tests.{eq-eqb, le-leb, lt-leb}
use lib.Dec.{eqb, leb}
use mathlib.Core.Bool.{true, false}
use lib.ListN.{length, take, drop, replicate}
use lib.Seq.{length-take-le}
use Rattle.machine.specs.Runs.{run_of}
use Rattle.word.specs.Choices.{if◌then◌otherwise◌}
use Rattle.word.specs.Numbers.{OrNumber, the, given_back}
use Rattle.std.specs.declared.result.Result.{Result}
use Rattle.std.specs.declared.result.Result.TheVariants.{Ok, Err}
use Rattle.word.specs.Core.{number_by}
use Rattle.tape.specs.declared.errors.ReadError.{ReadError}
use Rattle.tape.specs.declared.errors.ReadError.TheVariants.{Records, Length}
use Rattle.tape.specs.Files.{words_of, words_in_of, read_error_number, core_number_of, read_number_of, read_file_of, FileRead}
use Rattle.tape.proofs.Numbers.{count_number, counted}
use Rattle.trial.specs.declared.trials.Sum.{Sum}
use Rattle.trial.specs.Trials.{refused_of, filled_of, start, summary_of, says_trial, trial_of, Told}
use Rattle.trial.specs.ForCode.Loads.{Loaded}

-- ---- the ways out of a load

module _ (bytes old : List ℕ) (total : ℕ) where
  pub load_refused : {why : ReadError} {r : Result (Unit {0}) ReadError} → Err why ≡ words_in_of total → r ≡ Err why → Loaded bytes total old old r
  unfolding refused_of if◌then◌otherwise◌
  load_refused {why} e f =
      let n : core_number_of total ≡ read_error_number why = count_number total ∙ ap (number_by read_error_number) (sym e) in
      rw f (by why n)
    where
      by : (w : ReadError) → core_number_of total ≡ read_error_number w → Loaded bytes total old old (Err w)
      by Records n = record { number = rw n; core = rw n (λ z. absurd (omega arith)) }
      by Length n = record { number = rw n; core = rw n (λ z. absurd (omega arith)) }

  pub load_many : {n : ℕ} → Ok n ≡ words_in_of total → 4096 < n → Loaded bytes total old old (Err Length)
  unfolding refused_of if◌then◌otherwise◌
  load_many {n} e m =
      let z : core_number_of total ≡ 0 = count_number total ∙ ap (number_by read_error_number) (sym e) in
      let l : leb (total / 6) 4096 ≡ false = rw (← counted total e) (lt-leb n 4096 m) in
      record { number = rw (z, l); core = rw (z, l) (λ k. absurd (omega arith)) }

  pub load_read : {n : ℕ} {new core : List ℕ} {r : Result (Unit {0}) ReadError} → Ok n ≡ words_in_of total → n ≤ 4096 → length old ≡ 4096
      → FileRead bytes (take n old) new (number_by read_error_number r) → core ≡ new ++ drop n old → Loaded bytes total old core r
  unfolding refused_of read_file_of if◌then◌otherwise◌
  load_read {n} {new} {core} {r} e m l f c =
      let z : core_number_of total ≡ 0 = count_number total ∙ ap (number_by read_error_number) (sym e) in
      let k : length (take n old) ≡ n = length-take-le n old (omega arith) in
      let q : read_number_of bytes (length (take n old)) ≡ read_number_of bytes (total / 6) = ap (read_number_of bytes) (k ∙ counted total e) in
      let t : leb (total / 6) 4096 ≡ true = rw (← counted total e) (le-leb n 4096 m) in
      record {
        number = rw (z, t) (f.number ∙ q);
        core = rw (z, t) (λ y. c ∙ rw (← counted total e) (ap (λ (w : List ℕ). w ++ drop n old) (f.core ∙ rw (eq-eqb (read_number_of bytes (length (take n old))) 0 (q ∙ y), k))));
      }

-- ---- the trial

drop_replicate : (k n z : ℕ) → drop k (replicate n z) ≡ replicate (n - k) z
drop_replicate zero n z =
    let e : n ≡ n - 0 = omega arith in
    ap (λ (m : ℕ). replicate m z) e
drop_replicate (suc k) zero z =
    let e : 0 ≡ 0 - suc k = omega arith in
    ap (λ (m : ℕ). replicate m z) e
drop_replicate (suc k) (suc n) z =
    let e : n - k ≡ suc n - suc k = omega arith in
    drop_replicate k n z ∙ ap (λ (m : ℕ). replicate m z) e

pub trial_refused : {bytes old new : List ℕ} {total : ℕ} {why : ReadError} {r : Result Sum ReadError} → Loaded bytes total old new (Err why) → r ≡ Err why → says_trial r ≡ trial_of bytes total
unfolding trial_of if◌then◌otherwise◌
trial_refused {bytes} {old} {new} {total} {why} l e = rw e (by why l.number)
  where
    by : (w : ReadError) → read_error_number w ≡ refused_of bytes total
        → ◌≡◌ {A = OrNumber Sum} (given_back (read_error_number w)) (if eqb (refused_of bytes total) 0 then the (summary_of (run_of (filled_of bytes (total / 6)) start 1000)) otherwise given_back (refused_of bytes total))
    by Records n = rw (← n)
    by Length n = rw (← n)

pub trial_ended : {bytes new last : List ℕ} {total : ℕ} {u : Unit {0}} {s : Sum} → Loaded bytes total (replicate 4096 0) new (Ok u) → Told new 1000 last s → the s ≡ trial_of bytes total
unfolding trial_of filled_of if◌then◌otherwise◌
trial_ended {bytes} {new} {last} {total} {u} {s} l t =
    let core : new ≡ words_of (total / 6) bytes ++ replicate (4096 - total / 6) 0 =
    l.core (sym l.number) ∙ ap (λ (x : List ℕ). words_of (total / 6) bytes ++ x) (drop_replicate (total / 6) 4096 0) in
    rw (← l.number) (ap the t.sum ∙ ap (λ (x : List ℕ). the (summary_of (run_of x start 1000))) core)
