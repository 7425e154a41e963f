-- The chain of marks read by read, over any number of reads, so that no proof computes with 32,768.
use mathlib.Core.Path.{◌≡◌, refl}
use mathlib.Core.List.{List}
use Prim.Native.Nat.{ℕ, suc, ◌+◌, ◌-◌, ◌<◌, ◌≤◌}
use native.Mathlib.Omega.{arith}
use Rattle.machine.specs.declared.outcome.Cause.TheVariants.{Address}
use Rattle.machine.specs.Outcomes.{on, halt, ◌>>=◌, if◌then◌otherwise◌}
use Rattle.machine.specs.Memory.{read_of}
use Rattle.machine.specs.Marks.{chain_of}
use Rattle.word.specs.Layout.{mscw_msff_of, f_field_of}

pub chain_next : (n k : ℕ) (core : List ℕ) (m : ℕ) → k < n
    → chain_of (n - k) core m ≡ (read_of core m >>= (λ w. if mscw_msff_of w then chain_of (n - (k + 1)) core (f_field_of w) otherwise on w))
unfolding chain_of
chain_next n k core m h =
    let e : n - k ≡ suc (n - (k + 1)) = omega arith in
    rw e refl

pub chain_spent : (n k : ℕ) (core : List ℕ) (m : ℕ) → n ≤ k → chain_of (n - k) core m ≡ halt Address
unfolding chain_of
chain_spent n k core m h =
    let e : n - k ≡ 0 = omega arith in
    rw e refl

pub ruleset chains = (chain_next, chain_spent)
