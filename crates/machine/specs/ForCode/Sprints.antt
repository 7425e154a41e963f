-- The sprint: what the few registers of the common syllables stand for, and what is left of a run.
use Rattle.std.specs.Prelude.{ℕ, ◌-◌, ◌≡◌, true, ◌||◌, not, List, option_and_then}
use Rattle.machine.specs.declared.outcome.Registers.{Registers}
use Rattle.machine.specs.declared.outcome.Hot.{Hot}
use Rattle.std.specs.declared.option.Option.{Option}
use Rattle.std.specs.declared.option.Option.TheVariants.{Some, None}
use Rattle.machine.specs.Outcomes.{Res, on, halt}
use Rattle.machine.specs.States.{State, state_of}
use Rattle.machine.specs.Calls.{index_of}
use Rattle.machine.specs.Steps.{Ended, next}
use Rattle.machine.specs.Runs.{Run, counted, run_from}
use Rattle.word.specs.Choices.{if◌then◌otherwise◌}
use Rattle.word.specs.Addresses.{sum_of}
use Rattle.word.specs.Field.{with_field}
use Rattle.word.specs.Layout.{sign_of, presence_of, size_of, address_of}

-- The registers of a set with the hot ones.
abbrev pub upon : Registers → Hot → Registers
upon g t = record { a = t.a; afull = t.afull; b = t.b; bfull = t.bfull; s = g.s; f = g.f; c = t.c; r = g.r; l = t.l; salf = g.salf; msff = g.msff }

-- A emptied without a push, then a word put in it.
unfoldable pub raised : Hot → ℕ → Hot
raised t d = record { a = d; b = if t.afull then t.a otherwise t.b; afull = true; bfull = t.afull || t.bfull; c = t.c; l = t.l }

-- What a part went on with, its cause not told.
abbrev pub ok_of : {A : Type 0} → Res A → Option A
ok_of (on x) = Some x
ok_of (halt n) = None

-- B's word once A is empty, where no pop is due.
unfoldable pub under_of : Hot → Option ℕ
under_of t = if t.afull then Some t.a otherwise if t.bfull then Some t.b otherwise None

-- The descriptor of the element that a present data descriptor and an index at hand name.
unfoldable pub element_of : Hot → ℕ → Option ℕ
element_of t d =
    if sign_of d || not (presence_of d) then None
    otherwise
    option_and_then (λ x. option_and_then (λ i. Some (with_field (with_field d 8 17 0) 33 47 (sum_of (address_of d) i))) (ok_of (index_of x (size_of d))))
    (under_of t)

-- A common syllable that went on ended as the definition says; of one that is left nothing is said.
abbrev pub Quickly : List ℕ → Registers → Option Hot → Ended → Type 0
Quickly core g (Some t) o = next (state_of core (upon g t)) ≡ o
Quickly core g None o = Unit {0}

abbrev pub Waits : Option Hot → Type 0 → Type 0
Waits (Some t) P = Unit {0}
Waits None P = P

-- The same where core may be written: a syllable that is left keeps it.
pub record Hurries (core core' : List ℕ) (g : Registers) (r : Option Hot) (o : Ended) : Type 0 where
  pub same : Quickly core' g r o
  pub kept : Waits r (core' ≡ core)

-- What is left of a run of b syllables of which n are completed.
unfoldable pub rest_of_run : ℕ → ℕ → State → Run
rest_of_run b n st = counted n (run_from (b - n) st)
