-- Demand 3: "A segment that the inspector passes stays inside its sheet: it fetches only its own code, writes only the stack words, number
-- cells and array words named, those hold plain operands throughout, and it stops only for 15, 17, 20 or 21. The inspector refuses exactly
-- when a printed rule is broken, and names the place."
use Rattle.std.specs.Prelude.{ℕ, ◌<◌, ◌≤◌, ◌≡◌, List}
use Rattle.machine.specs.States.{State}
use Rattle.machine.specs.Runs.{run_of}
use Rattle.inspector.specs.Verdicts.{given, verdict_of, rules}
use Rattle.demands.specs.Stays.{start_of, Reaches, Stays}
use Rattle.demands.specs.Leaves.{Leaves}
use Rattle.demands.specs.Rules.{AllKept, Blames}
use Rattle.demands.specs.Sample.{sample_core, sample_sheet}

pub record Demand3 : Type 0 where
  -- a passed segment, and any state that it reaches from the sheet's start by steps that go on
  pub stays : (core sheet : List ℕ) → verdict_of core sheet ≡ given 0 0 → (n : ℕ) (u : State) → Reaches n (start_of core sheet) u → Stays core sheet u
  -- a passed segment, and what a run of it from there leaves
  pub leaves : (core sheet : List ℕ) → verdict_of core sheet ≡ given 0 0 → (budget : ℕ) → budget ≤ 1000000
      → Leaves core sheet (run_of core (start_of core sheet).regs budget).stop (run_of core (start_of core sheet).regs budget).core
  -- the answer is 0 exactly when no printed rule is broken
  pub zero_kept : (core sheet : List ℕ) → verdict_of core sheet ≡ given 0 0 → AllKept (rules core sheet)
  pub kept_zero : (core sheet : List ℕ) → AllKept (rules core sheet) → verdict_of core sheet ≡ given 0 0
  -- it is n at p exactly when rule n is broken at p, at no lower place, and no rule before it is broken
  pub number_blames : (core sheet : List ℕ) (n p : ℕ) → 0 < n → verdict_of core sheet ≡ given n p → Blames (rules core sheet) n p
  pub blames_number : (core sheet : List ℕ) (n p : ℕ) → Blames (rules core sheet) n p → verdict_of core sheet ≡ given n p
  -- no inspector that refuses all: a segment that passes; and none that passes all: the same with too little room breaks the scan at syllable 2
  pub passes : verdict_of sample_core (sample_sheet 2) ≡ given 0 0
  pub refuses : verdict_of sample_core (sample_sheet 1) ≡ given 34 2
