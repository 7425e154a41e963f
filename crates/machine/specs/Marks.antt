-- MKS and XIT.
use Rattle.std.specs.Prelude.{ℕ, zero, suc, ◌-◌, true, not, ◌&&◌, List, eqb}
use Rattle.machine.specs.declared.outcome.Cause.TheVariants.{Address, Flag}
use Rattle.machine.specs.Outcomes.{Res, on, halt, ◌>>=◌, if◌then◌otherwise◌}
use Rattle.machine.specs.States.{State, empty_a, empty_b, with_s, with_f, with_cl, with_r, with_salf, with_msff}
use Rattle.machine.specs.Memory.{read_of, store_of}
use Rattle.machine.specs.Stack.{push_of, push_a_of, push_b_of}
use Rattle.word.specs.Layout.{flag_of, f_field_of, mscw_r_of, mscw_msff_of, mscw_salf_of, mscw_of, rcw_l_of, rcw_c_of}
use Rattle.word.specs.Addresses.{cell_address}

-- "if SALF on and MSFF off, write that MSCW also at 64R+7 (11)"
unfoldable pub also_of : State → ℕ → Res State
also_of st m = if st.regs.salf && not st.regs.msff then store_of st (cell_address st.regs.r 7) m otherwise on st

-- "MKS: push B, then A, if full; push MSCW; F:=S; .. ; MSFF on."
unfoldable pub mks_of : State → Res State
mks_of st = do
  u ← push_b_of st
  v ← push_a_of u
  w ← push_of v (mscw_of st.regs.r st.regs.msff st.regs.salf st.regs.f)
  x ← also_of w (mscw_of st.regs.r st.regs.msff st.regs.salf st.regs.f)
  on (with_msff (with_f x x.regs.s) true)

-- "Outside core 11, flag off 14."
unfoldable pub control_of : List ℕ → ℕ → Res ℕ
control_of core m = do
  w ← read_of core m
  if flag_of w then on w otherwise halt Flag

-- "the word at the new F gives R, MSFF, SALF, F, and S becomes its address less 1 (address 0: 11)"
unfoldable pub mark_at_of : List ℕ → ℕ → Res ℕ
mark_at_of core m = if eqb m 0 then halt Address otherwise control_of core m

-- "read at F, follow F fields while bit 16 is on (11 outside core, or bit 16 still on at the 32,768th read)"
unfoldable pub chain_of : ℕ → List ℕ → ℕ → Res ℕ
chain_of zero core m = halt Address
chain_of (suc reads) core m = do
  w ← read_of core m
  if mscw_msff_of w then chain_of reads core (f_field_of w) otherwise on w

-- "If MSFF and SALF are now both on, .. write the last word at 64R+7."
unfoldable pub restore_of : State → Res State
restore_of st =
    if st.regs.msff && st.regs.salf then
    (do
      w ← chain_of 32768 st.core st.regs.f
      store_of st (cell_address st.regs.r 7) w)
    otherwise on st

-- "Empty A, B; the word at F gives C, L, F; the word at the new F gives R, MSFF, SALF, F, and S becomes its address less 1"
unfoldable pub leave_of : State → Res State
leave_of st = do
  rcw ← control_of st.core st.regs.f
  mscw ← mark_at_of st.core (f_field_of rcw)
  on
      (with_s
      (with_f (with_salf (with_msff (with_r (with_cl (empty_b (empty_a st)) (rcw_c_of rcw) (rcw_l_of rcw)) (mscw_r_of mscw)) (mscw_msff_of mscw)) (mscw_salf_of mscw)) (f_field_of mscw))
      (f_field_of rcw - 1))

-- "XIT: nothing if SALF is off."
unfoldable pub xit_of : State → Res State
xit_of st =
    if st.regs.salf then
    (do
      u ← leave_of st
      restore_of u)
    otherwise on st
