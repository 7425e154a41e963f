-- "All tests, then all writes" is the paper's order of pushes: a test of room looks at the core's length, which no write changes.
use mathlib.Core.Path.{◌≡◌, refl}
use mathlib.Core.Bool.{Bool, true, false, not, ◌&&◌}
use mathlib.Core.List.{List}
use Prim.Native.Nat.{ℕ, ◌+◌, ◌*◌}
use lib.ListN.{length}
use Rattle.machine.specs.declared.outcome.Registers.{Registers}
use Rattle.machine.specs.Outcomes.{Res, on, halt, ◌>>=◌}
use Rattle.machine.specs.States.{State, set_a, set_b, set_s, empty_a, empty_b, state_of, store}
use Rattle.machine.specs.Memory.{in_core, store_of}
use Rattle.machine.specs.Stack.{slot_of, push_of, push_a_of, push_b_of}
use Rattle.word.specs.Choices.{if◌then◌otherwise◌}
use Rattle.machine.specs.Marks.{also_of}
use Rattle.machine.specs.ForCode.Pushes.{slot_if, in_core_if, emptied}
use Rattle.machine.specs.ForCode.Answers.{put_of}

-- m is the test o, and then the state S of what the test gives.
pub record Planned {A : Type 0} (m : Res State) (o : Res A) (S : A → State) : Type 0 where
  pub plan : m ≡ (o >>= (λ x. on (S x)))

-- What comes after m comes after its test.
pub binds : {A : Type 0} {m : Res State} {o : Res A} {S : A → State} (k : State → Res State) (h : A → Res State) → Planned m o S → ((x : A) → k (S x) ≡ h x) → (m >>= k) ≡ (o >>= h)
unfolding ◌>>=◌
binds {A} {m} {o} {S} k h p f = go o p.plan
  where
    go : (o : Res A) → m ≡ (o >>= (λ x. on (S x))) → (m >>= k) ≡ (o >>= h)
    go (on x) e = rw e (f x)
    go (halt n) e = rw e refl

-- A plan, and then a change of its state.
pub changed : {A : Type 0} {m : Res State} {o : Res A} {S : A → State} (f : State → State) → Planned m o S → Planned (m >>= (λ u. on (f u))) o (λ x. f (S x))
changed f p = record { plan = binds _ _ p (λ x. refl) }

pub pushes : (st : State) (w : ℕ) {len : ℕ} → length st.core ≡ len
    → Planned (push_of st w) (slot_of len st.regs.s st.regs.r) (λ t. record { core = put_of true t w st.core; regs = set_s st.regs t })
unfolding push_of
pushes st w e = record { plan = rw e }

-- B pushed if full and emptied.
push_b_of_is : (q : Bool) (core : List ℕ) (g : Registers) {len : ℕ} → length core ≡ len
    → Planned (push_b_of (state_of core (set_b g q g.b))) (slot_if q len g.s g.r) (λ t. state_of (put_of q t g.b core) (set_b (set_s g t) false (emptied q g.b)))
unfolding push_b_of slot_if emptied if◌then◌otherwise◌ ◌>>=◌
push_b_of_is true core g e = changed empty_b (pushes (state_of core (set_b g true g.b)) g.b e)
push_b_of_is false core g e = record { plan = refl }

pub push_b : (st : State) {len : ℕ} → length st.core ≡ len
    → Planned (push_b_of st) (slot_if st.regs.bfull len st.regs.s st.regs.r) (λ t. record { core = put_of st.regs.bfull t st.regs.b st.core; regs = set_b (set_s st.regs t) false (emptied st.regs.bfull st.regs.b) })
push_b st e = push_b_of_is st.regs.bfull st.core st.regs e

-- A pushed if full and emptied.
push_a_of_is : (p : Bool) (core : List ℕ) (g : Registers) {len : ℕ} → length core ≡ len
    → Planned (push_a_of (state_of core (set_a g p g.a))) (slot_if p len g.s g.r) (λ t. state_of (put_of p t g.a core) (set_a (set_s g t) false (emptied p g.a)))
unfolding push_a_of slot_if emptied if◌then◌otherwise◌ ◌>>=◌
push_a_of_is true core g e = changed empty_a (pushes (state_of core (set_a g true g.a)) g.a e)
push_a_of_is false core g e = record { plan = refl }

pub push_a : (st : State) {len : ℕ} → length st.core ≡ len
    → Planned (push_a_of st) (slot_if st.regs.afull len st.regs.s st.regs.r) (λ t. record { core = put_of st.regs.afull t st.regs.a st.core; regs = set_a (set_s st.regs t) false (emptied st.regs.afull st.regs.a) })
push_a st e = push_a_of_is st.regs.afull st.core st.regs e

-- "if SALF on and MSFF off, write that MSCW also at 64R+7"
also_of_is : (live : Bool) (o : Res ℕ) (st : State) (m w : ℕ)
    → (if live then (o >>= (λ t. on (store st t w))) otherwise on st)
    ≡ ((if live then o otherwise on m) >>= (λ t. on (record { core = put_of live t w st.core; regs = st.regs })))
unfolding if◌then◌otherwise◌ ◌>>=◌
also_of_is true o st m w = refl
also_of_is false o st m w = refl

pub also_plan : (st : State) (w : ℕ) {len : ℕ} → length st.core ≡ len
    → Planned (also_of st w) (in_core_if (st.regs.salf && not st.regs.msff) len (64 * st.regs.r + 7))
    (λ t. record { core = put_of (st.regs.salf && not st.regs.msff) t w st.core; regs = st.regs })
unfolding also_of in_core_if store_of
also_plan st w {len} e = record { plan = rw (← e) (also_of_is (st.regs.salf && not st.regs.msff) (in_core (length st.core) (64 * st.regs.r + 7)) st (64 * st.regs.r + 7) w) }
