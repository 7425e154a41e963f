-- MKS and XIT keep a state fit.
use Prim.Native.Nat.{ℕ, zero, suc, ◌-◌}
use mathlib.Core.Bool.{true, not, ◌&&◌}
use native.Mathlib.Omega.{arith}
use Rattle.machine.specs.States.{State}
use Rattle.machine.specs.Marks.{also_of, mks_of, control_of, mark_at_of, chain_of, restore_of, leave_of, xit_of}
use Rattle.word.specs.Layout.{f_field_of, mscw_r_of, mscw_msff_of, mscw_salf_of, rcw_c_of, rcw_l_of}
use Rattle.machine.proofs.Sizes.{Gives, goes, stops, gives_if, gives_bind, any}
use Rattle.laws.specs.Fit.{Word, Keeps}
use Rattle.laws.proofs.FitSetters.{empty_a_is, empty_b_is, with_s_is, with_f_is, with_cl_is, with_r_is, with_salf_is, with_msff_is}
use Rattle.laws.proofs.FitStack.{Goes, read_fit, store_of_fit, push_fit, push_a_fit, push_b_fit}
use Rattle.laws.proofs.FitWords.{mscw_word}

also_fit : {o : State} (st : State) → Keeps o st → (m : ℕ) → Word m → Goes o (also_of st m)
unfolding also_of
also_fit st k m h = gives_if (st.regs.salf && not st.regs.msff) (λ _. store_of_fit st k _ m h) (λ _. goes k)

pub mks_fit : {o : State} (st : State) → Keeps o st → Goes o (mks_of st)
unfolding mks_of
mks_fit st k =
    let m = mscw_word st.regs.r st.regs.msff st.regs.salf st.regs.f in
    gives_bind (push_b_fit st k)
    (λ u i. gives_bind (push_a_fit u i)
    (λ v j. gives_bind (push_fit v j _ m)
    (λ w h. gives_bind (also_fit w h _ m) (λ x e. goes (with_msff_is (with_f_is e x.regs.s e.fit.regs.s) true)))))

-- Each register is given by a field of its own width.
leave_fit : {o : State} (st : State) → Keeps o st → Goes o (leave_of st)
unfolding leave_of
leave_fit st k =
    gives_bind (any (control_of st.core st.regs.f))
    (λ rcw _. gives_bind (any (mark_at_of st.core (f_field_of rcw)))
    (λ mscw _. goes
    (with_s_is
    (with_f_is (with_salf_is (with_msff_is (with_r_is (with_cl_is (empty_b_is (empty_a_is k)) (rcw_c_of rcw) (rcw_l_of rcw) (omega arith) (omega arith)) (mscw_r_of mscw) (omega arith)) (mscw_msff_of mscw)) (mscw_salf_of mscw)) (f_field_of mscw) (omega arith))
    (f_field_of rcw - 1) (omega arith))))

chain_word : {o : State} (reads : ℕ) (st : State) → Keeps o st → (m : ℕ) → Gives Word (chain_of reads st.core m)
unfolding chain_of
chain_word zero st k m = stops
chain_word (suc reads) st k m =
    gives_bind (read_fit st k m) (λ w h. gives_if (mscw_msff_of w) (λ _. chain_word reads st k (f_field_of w)) (λ _. goes h))

restore_fit : {o : State} (st : State) → Keeps o st → Goes o (restore_of st)
unfolding restore_of
restore_fit st k =
    gives_if (st.regs.msff && st.regs.salf)
    (λ _. gives_bind (chain_word 32768 st k st.regs.f) (λ w h. store_of_fit st k _ w h))
    (λ _. goes k)

pub xit_fit : {o : State} (st : State) → Keeps o st → Goes o (xit_of st)
unfolding xit_of
xit_fit st k = gives_if st.regs.salf (λ _. gives_bind (leave_fit st k) restore_fit) (λ _. goes k)
