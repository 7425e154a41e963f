-- MKS with all its tests first is MKS as the paper writes it.
use mathlib.Core.Path.{◌≡◌, refl, ◌∙◌}
use mathlib.Core.Bool.{Bool, true, false, not, ◌&&◌}
use mathlib.Core.List.{List}
use Prim.Native.Nat.{ℕ, ◌+◌, ◌*◌}
use lib.ListN.{length}
use Rattle.machine.specs.declared.outcome.Registers.{Registers}
use Rattle.machine.specs.Outcomes.{Res, on, ◌>>=◌}
use Rattle.machine.specs.States.{State, set_a, set_b, set_s, state_of}
use Rattle.machine.specs.Stack.{slot_of}
use Rattle.machine.specs.ForCode.Pushes.{slot_if, in_core_if, emptied, piled_of, marked_of}
use Rattle.machine.specs.Marks.{mks_of}
use Rattle.machine.specs.ForCode.Answers.{put_of}
use Rattle.machine.proofs.Writes.{length_put}
use Rattle.machine.proofs.Plans.{binds, pushes, push_a, push_b, also_plan}
use Rattle.word.specs.Layout.{mscw_of}

-- The code's order; twice says whether the mark is written at 64R+7 too.
unfoldable pub mks_plan : Bool → List ℕ → Registers → Res State
mks_plan twice core g = do
  p ← slot_if g.bfull (length core) g.s g.r
  q ← slot_if g.afull (length core) p g.r
  s ← slot_of (length core) q g.r
  m ← in_core_if twice (length core) (64 * g.r + 7)
  on (state_of (piled_of twice g p q s m core) (marked_of g s))

module _ (core : List ℕ) (g : Registers) where
  abbrev mark : ℕ
  mark = mscw_of g.r g.msff g.salf g.f

  -- The states after B, A and the mark are pushed.
  abbrev one : ℕ → State
  one p = state_of (put_of g.bfull p g.b core) (set_b (set_s g p) false (emptied g.bfull g.b))

  abbrev two : ℕ → ℕ → State
  two p q = state_of (put_of g.afull q g.a (one p).core) (set_a (set_s (one p).regs q) false (emptied g.afull g.a))

  abbrev three : ℕ → ℕ → ℕ → State
  three p q s = state_of (put_of true s mark (two p q).core) (set_s (two p q).regs s)

  long_one : (p : ℕ) → length (one p).core ≡ length core
  long_one p = length_put g.bfull p g.b core

  long_two : (p q : ℕ) → length (two p q).core ≡ length core
  long_two p q = length_put g.afull q g.a (one p).core ∙ long_one p

  long_three : (p q s : ℕ) → length (three p q s).core ≡ length core
  long_three p q s = length_put true s mark (two p q).core ∙ long_two p q

  pub mks_is : mks_of (state_of core g) ≡ mks_plan (g.salf && not g.msff) core g
  unfolding mks_plan mks_of piled_of marked_of
  mks_is =
      (binds _ _ (push_b (state_of core g) refl)
      (λ p. binds _ _ (push_a (one p) (long_one p))
      (λ q. binds _ _ (pushes (two p q) mark (long_two p q))
      (λ s. binds _ _ (also_plan (three p q s) mark (long_three p q s)) (λ m. refl)))))
