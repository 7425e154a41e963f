-- Pushes with the tests apart from the writes: what the parts of entry and MKS answer and write.
use Rattle.std.specs.Prelude.{ℕ, Bool, true, false, not, List}
use Rattle.machine.specs.declared.outcome.Registers.{Registers}
use Rattle.machine.specs.Outcomes.{Res, on}
use Rattle.machine.specs.Stack.{slot_of}
use Rattle.machine.specs.Memory.{in_core}
use Rattle.machine.specs.States.{set_a, set_b, set_s, set_f, set_cl, set_salf, set_msff}
use Rattle.word.specs.Choices.{if◌then◌otherwise◌}
use Rattle.word.specs.Layout.{address_of, f_field_of, mscw_of, rcw_of}
use Rattle.machine.specs.ForCode.Answers.{put_of}

-- S after a push that is made or not.
unfoldable pub slot_if : Bool → ℕ → ℕ → ℕ → Res ℕ
slot_if live len s r = if live then slot_of len s r otherwise on s

-- An address that is looked at or not.
unfoldable pub in_core_if : Bool → ℕ → ℕ → Res ℕ
in_core_if live len m = if live then in_core len m otherwise on m

-- What a register holds after it was pushed if full.
unfoldable pub emptied : Bool → ℕ → ℕ
emptied full w = if full then 0 otherwise w

-- Entry: the core with B at p, the mark at q and the return word at s.
unfoldable pub framed_of : Bool → Bool → Registers → ℕ → ℕ → ℕ → List ℕ → List ℕ
framed_of desc argument g p q s core =
    put_of true s (rcw_of desc g.l (if argument then g.f otherwise q) g.c)
    (put_of (not argument) q (mscw_of g.r g.msff g.salf g.f) (put_of g.bfull p g.b core))

-- Entry: the registers, S being s.
unfoldable pub entered_of : Bool → Registers → ℕ → ℕ → Registers
entered_of argument g d s =
    set_msff (set_salf (set_cl (set_f (set_s (set_b (set_a g false 0) false (emptied g.bfull g.b)) s) (if argument then s otherwise f_field_of d)) (address_of d) 0) true) false

-- MKS: the core with B at p, A at q, the mark at s and, where it is written twice, at m.
unfoldable pub piled_of : Bool → Registers → ℕ → ℕ → ℕ → ℕ → List ℕ → List ℕ
piled_of twice g p q s m core =
    put_of twice m (mscw_of g.r g.msff g.salf g.f)
    (put_of true s (mscw_of g.r g.msff g.salf g.f) (put_of g.afull q g.a (put_of g.bfull p g.b core)))

-- MKS: the registers, S being s.
unfoldable pub marked_of : Registers → ℕ → Registers
marked_of g s =
    set_msff (set_f (set_s (set_b (set_a g false (emptied g.afull g.a)) false (emptied g.bfull g.b)) s) s) true
