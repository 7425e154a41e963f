-- What a posting is, by the inspector's answer and the run's; and its guarantees, from demand 3.
use Prim.Native.Nat.{ℕ, ◌<◌, ◌≤◌}
use mathlib.Core.Path.{◌≡◌, refl, sym, ◌∙◌, ap, subst}
use mathlib.Core.Logic.{◌⊎◌, inl, inr}
use mathlib.Core.Bool.{Bool, true, false, true≢false}
use mathlib.Core.List.{List}
use native.Mathlib.Omega.{arith}
use borrow.Author.Tests.{eq-eqb, ne_eqb, eqb-true, leb-true}
use lib.Dec.{eqb, leb}
use Rattle.std.specs.declared.result.Result.{Result}
use Rattle.std.specs.declared.result.Result.TheVariants.{Ok, Err}
use Rattle.std.specs.Result.{result_or}
use Rattle.machine.specs.declared.outcome.Registers.{Registers}
use Rattle.machine.specs.declared.outcome.Ran.{Ran}
use Rattle.machine.specs.declared.outcome.Refusal.{Refusal}
use Rattle.word.specs.Choices.{if◌then◌otherwise◌}
use Rattle.machine.specs.Steps.{refusal_of, refusal_number}
use Rattle.machine.specs.Runs.{Run, ends_at, run_from, run_of, ran_of}
use Rattle.inspector.specs.declared.verdict.Broken.{Broken}
use Rattle.inspector.specs.declared.verdict.Broken.TheVariants.{Core, Length, Record, Area, Cell, Syllable, Target}
use Rattle.word.specs.declared.cores.CoreError.TheVariants.{Length as Words, Word}
use Rattle.inspector.specs.Verdicts.{given, verdict_of, broken_number, broken_place}
use Rattle.laws.proofs.FitRuns.{run_fit}
use Rattle.laws.proofs.Running.{passed_run}
use Rattle.laws.proofs.Numbers.{end_from, refusal_within}
use Rattle.demands.specs.Stays.{start_of}
use Rattle.demands.specs.Leaves.{Number, spent, index, communicate, unwhole, zero_divisor}
use Rattle.demands.proofs.Checked.{run_leaves, start_passes}
use Rattle.demands.proofs.Demand3.{demand3}
use Rattle.demands.proofs.Exact.{zero_given}
use Rattle.post.specs.declared.PostError.{PostError}
use Rattle.post.specs.declared.PostError.TheVariants.{Broken as Breaks, Budget}
use Rattle.post.specs.Posting.{Posting, turned_away, ran, post_of, post_error_number, posted_of, Guarantees, Posts}

-- ---- the guarantees

not_zero : {A : Type 0} {n : ℕ} → eqb n 0 ≡ false → n ≡ 0 → A
not_zero {n = n} e z = absurd (true≢false (sym (eq-eqb n 0 z) ∙ e))

pub guarantees : (core sheet : List ℕ) (budget : ℕ) → Guarantees core sheet (post_of core sheet budget)
unfolding post_of if◌then◌otherwise◌
guarantees core sheet budget = by (eqb (verdict_of core sheet).number 0) (leb budget 1000000) refl
  where
    by : (b d : Bool) → eqb (verdict_of core sheet).number 0 ≡ b
        → Guarantees core sheet (if b then (if d then ran (run_from budget (start_of core sheet)) otherwise turned_away 5 0 core) otherwise turned_away (verdict_of core sheet).number (verdict_of core sheet).place core)
    by true true e =
        let z : verdict_of core sheet ≡ given 0 0 = zero_given core sheet (eqb-true (verdict_of core sheet).number 0 e) in
        record { away = λ n. absurd (n refl); posted = λ _. run_leaves core sheet z budget; throughout = λ _. demand3.stays core sheet z }
    by true false e = record { away = λ n. refl; posted = λ z. absurd (omega arith); throughout = λ z. absurd (omega arith) }
    by false d e = record { away = λ n. refl; posted = λ z. not_zero e z; throughout = λ z. not_zero e z }

posts : {core sheet : List ℕ} {budget : ℕ} {r : Posting} → r ≡ post_of core sheet budget → Posts core sheet budget r
posts {core} {sheet} {budget} e = rw e (record { same = refl; guarded = guarantees core sheet budget })

-- ---- a segment that the inspector refuses

positive : (b : Broken) → 0 < broken_number b
positive (Core Words) = omega arith
positive (Core Word) = omega arith
positive Length = omega arith
positive (Record i) = omega arith
positive (Area i) = omega arith
positive (Cell i) = omega arith
positive (Syllable i) = omega arith
positive (Target i) = omega arith

pub nonzero : (e : PostError) → post_error_number e ≡ 0 → ⊥
nonzero (Breaks b) z = omega (arith, positive b, z)
nonzero Budget z = omega arith

pub posts_away : (core sheet : List ℕ) (budget : ℕ) {b : Broken} → given (broken_number b) (broken_place b) ≡ verdict_of core sheet → {r : Result Ran PostError} → r ≡ Err (Breaks b)
    → Posts core sheet budget (posted_of r core)
unfolding post_of if◌then◌otherwise◌
posts_away core sheet budget {b} e s = posts (rw (s, ← e, ne_eqb (broken_number b) 0 (nonzero (Breaks b))))

-- ---- a segment that passes: of its run only the budget can be refused

-- What a passed segment's run stops by is no refusal's number, and 5 is no end's.
no_refusal : {A : Type 0} {m : ℕ} (n : Refusal) → Number m → refusal_number n ≡ m → A
no_refusal n spent e = absurd (omega (arith, refusal_within n, e))
no_refusal n index e = absurd (omega (arith, refusal_within n, e))
no_refusal n communicate e = absurd (omega (arith, refusal_within n, e))
no_refusal n unwhole e = absurd (omega (arith, refusal_within n, e))
no_refusal n zero_divisor e = absurd (omega (arith, refusal_within n, e))

no_end : {A : Type 0} {m : ℕ} → (m ≡ 0) ⊎ (11 ≤ m) → m ≡ 5 → A
no_end (inl z) e = absurd (omega arith)
no_end (inr h) e = absurd (omega arith)

run_start : (core sheet : List ℕ) (budget : ℕ) → verdict_of core sheet ≡ given 0 0
    → run_of core (start_of core sheet).regs budget ≡ (if leb budget 1000000 then run_from budget (start_of core sheet) otherwise ends_at 5 0 (start_of core sheet))
unfolding run_of if◌then◌otherwise◌
run_start core sheet budget e = rw (eq-eqb (refusal_of core (start_of core sheet).regs) 0 (start_passes core sheet e))

pub posts_passed : (core sheet : List ℕ) (budget : ℕ) → given 0 0 ≡ verdict_of core sheet → {g : Registers} → ((core₁ : List ℕ) → g ≡ (start_of core₁ sheet).regs)
    → (m : Result Ran Refusal) (core' : List ℕ) → ran_of g m core' ≡ run_of core g budget → {r : Result Ran PostError} → r ≡ result_or m (Err Budget)
    → Posts core sheet budget (posted_of r core')
unfolding post_of if◌then◌otherwise◌
posts_passed core sheet budget e s m core' d t =
    posts (rw (t, ← e) (by m (leb budget 1000000) (subst (λ (g : Registers). ran_of g m core' ≡ run_of core g budget) (s core) d ∙ run_start core sheet budget (sym e))))
  where
    by : (m : Result Ran Refusal) (b : Bool) → ran_of (start_of core sheet).regs m core' ≡ (if b then run_from budget (start_of core sheet) otherwise ends_at 5 0 (start_of core sheet))
        → posted_of (result_or m (Err Budget)) core' ≡ (if b then ran (run_from budget (start_of core sheet)) otherwise turned_away 5 0 core)
    by (Ok x) true d = ap ran d
    by (Ok x) false d = no_end (end_from x.end) (ap (λ (x : Run). x.stop) d)
    by (Err n) true d = no_refusal n (run_leaves core sheet (sym e) budget).number (ap (λ (x : Run). x.stop) d)
    by (Err n) false d = ap (λ (x : Run). turned_away 5 0 x.core) d

-- ---- a segment that was run leaves a state that passes the checks 1, 2 and 3

pub post_fit : (core sheet : List ℕ) (budget : ℕ) → (post_of core sheet budget).number ≡ 0 → refusal_of (post_of core sheet budget).core (post_of core sheet budget).regs ≡ 0
unfolding post_of if◌then◌otherwise◌
post_fit core sheet budget = by (eqb (verdict_of core sheet).number 0) (leb budget 1000000) refl refl
  where
    this : Bool → Bool → Posting
    this b d = if b then (if d then ran (run_from budget (start_of core sheet)) otherwise turned_away 5 0 core) otherwise turned_away (verdict_of core sheet).number (verdict_of core sheet).place core

    by : (b d : Bool) → eqb (verdict_of core sheet).number 0 ≡ b → leb budget 1000000 ≡ d → (this b d).number ≡ 0 → refusal_of (this b d).core (this b d).regs ≡ 0
    by true true e d z =
        let passes : refusal_of core (start_of core sheet).regs ≡ 0 = start_passes core sheet (zero_given core sheet (eqb-true (verdict_of core sheet).number 0 e)) in
        subst (λ (r : Run). refusal_of r.core r.regs ≡ 0) (passed_run core (start_of core sheet).regs budget passes (leb-true budget 1000000 d)) (run_fit core (start_of core sheet).regs budget passes)
    by true false e d z = absurd (omega arith)
    by false c e d z = not_zero e z
