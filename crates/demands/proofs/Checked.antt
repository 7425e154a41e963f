-- Beside demand 3: every state reached passes the machine's checks, and what a run of a passed segment leaves at its end.
use Prim.Native.Nat.{ℕ, zero, suc}
use mathlib.Core.Path.{◌≡◌, refl, sym, subst}
use mathlib.Core.List.{List}
use native.Mathlib.Omega.{arith}
use Rattle.machine.specs.declared.outcome.Cause.{Cause}
use Rattle.machine.specs.declared.outcome.Cause.TheVariants.{Address, Overflow, Presence, Flag, Index, Unbuilt, Unwhole, ZeroDivisor}
use Rattle.machine.specs.Outcomes.{number_of}
use Rattle.machine.specs.States.{State}
use Rattle.machine.specs.Steps.{Ended, next, communicated, stopped, execute_of, refusal_of}
use Rattle.laws.specs.Fit.{Fit, Keeps, After}
use Rattle.laws.proofs.FitExecute.{execute_fit}
use Rattle.laws.proofs.FitChecks.{fit_refusal}
use Rattle.inspector.specs.Verdicts.{verdict_of, given}
use Rattle.demands.specs.Stays.{start_of, Reaches, Allowed}
use Rattle.demands.specs.Leaves.{Number, spent, index, communicate, unwhole, zero_divisor, Leaves}
use Rattle.machine.specs.Runs.{Run, goes_on, run_from}
use Rattle.demands.proofs.Passed.{Passed}
use Rattle.demands.proofs.Answers.{passed}
use Rattle.demands.proofs.Holds.{Kept}
use Rattle.demands.proofs.Ends.{Inv, Good}
use Rattle.demands.proofs.Segments.{start, execute_good}

-- The start passes the checks 1, 2 and 3, and so does every state reached.
start_fit : (core sheet : List ℕ) → Passed core sheet → Fit (start_of core sheet)
start_fit core sheet ok =
    record {
      some = omega (arith, ok.some, ok.code_in);
      most = ok.most;
      words = ok.words;
      regs = record {
        a = refl;
        b = refl;
        s = omega (arith, ok.stack_in, ok.most);
        f = omega arith;
        c = omega (arith, ok.some, ok.code_in, ok.most);
        r = omega (arith, ok.page, ok.table_in, ok.most);
        l = omega arith;
      };
    }

reached_fit : (core sheet : List ℕ) → Passed core sheet → (n : ℕ) (u : State) → Reaches n (start_of core sheet) u → Fit u
reached_fit core sheet ok zero u e = subst (λ (u : State). Fit u) (sym e) (start_fit core sheet ok)
reached_fit core sheet ok (suc n) u r =
    let k : Keeps r.0 u = subst (λ (e : Ended). After (Keeps r.0) e) r.2 (execute_fit r.0 (reached_fit core sheet ok n r.0 r.1)) in
    k.fit

allowed_number : (n : Cause) → Allowed n → Number (number_of n)
allowed_number Address a = absurd a
allowed_number Overflow a = absurd a
allowed_number Presence a = absurd a
allowed_number Flag a = absurd a
allowed_number Index a = index
allowed_number Unbuilt a = absurd a
allowed_number Unwhole a = unwhole
allowed_number ZeroDivisor a = zero_divisor

leaves_by : (core sheet : List ℕ) (n : ℕ) (l : List ℕ) → Number n → Kept core sheet l → Leaves core sheet n l
leaves_by core sheet n l h k = record { number = h; size = k.size; outside = k.same; plain = k.plain }

-- Every state reached passes the checks, so that the step of it is what demand 3 speaks of.
pub reached_passes : (core sheet : List ℕ) → verdict_of core sheet ≡ given 0 0 → (n : ℕ) (u : State) → Reaches n (start_of core sheet) u → refusal_of u.core u.regs ≡ 0
reached_passes core sheet e n u r = (fit_refusal u.core u.regs).1 (reached_fit core sheet (passed core sheet e) n u r)

-- A run from a state that holds the invariant, however long.
goes_good : (core sheet : List ℕ) (u : State) → Kept core sheet u.core → (e : Ended) → Good core sheet e → (rest : State → Run)
    → ((v : State) → Inv core sheet v → Leaves core sheet (rest v).stop (rest v).core)
    → Leaves core sheet (goes_on e rest u).stop (goes_on e rest u).core
goes_good core sheet u k (next v) g rest h = h v g
goes_good core sheet u k (communicated v) g rest h = leaves_by core sheet 17 v.core communicate g
goes_good core sheet u k (stopped n) g rest h = leaves_by core sheet (number_of n) u.core (allowed_number n g) k

run_good : (core sheet : List ℕ) → Passed core sheet → (n : ℕ) (u : State) → Inv core sheet u → Leaves core sheet (run_from n u).stop (run_from n u).core
unfolding run_from
run_good core sheet ok zero u v = leaves_by core sheet 0 u.core spent v.at.kept
run_good core sheet ok (suc n) u v =
    goes_good core sheet u v.at.kept (execute_of u) (execute_good core sheet ok u v) (run_from n) (λ w i. run_good core sheet ok n w i)

-- What a run of a passed segment from its start leaves.
pub run_leaves : (core sheet : List ℕ) → verdict_of core sheet ≡ given 0 0 → (budget : ℕ) → Leaves core sheet (run_from budget (start_of core sheet)).stop (run_from budget (start_of core sheet)).core
run_leaves core sheet e budget = run_good core sheet (passed core sheet e) budget (start_of core sheet) (start core sheet (passed core sheet e))

-- The start passes the checks.
pub start_passes : (core sheet : List ℕ) → verdict_of core sheet ≡ given 0 0 → refusal_of core (start_of core sheet).regs ≡ 0
start_passes core sheet e = reached_passes core sheet e 0 (start_of core sheet) refl
