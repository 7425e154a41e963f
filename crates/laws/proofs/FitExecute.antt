-- A syllable keeps a fit state fit, and its core as long.
use Prim.Native.Nat.{ℕ, ◌+◌, ◌-◌, ◌*◌, ◌/◌, ◌%◌, ◌^◌, ◌<◌}
use mathlib.Core.Path.{◌≡◌, refl, subst}
use mathlib.Core.Bool.{true, false}
use native.Mathlib.Nat.{mod-lt}
use native.Mathlib.Omega.{arith}
use lib.Pow.{pow_pos}
use Rattle.machine.specs.Outcomes.{Res, on, halt}
use Rattle.machine.specs.States.{State}
use Rattle.machine.specs.Memory.{read_of}
use Rattle.machine.specs.Bits.{lnd_of, lor_of, lqv_of, lng_of, mop_of, mds_of, ssp_of, ssn_of, chs_of}
use Rattle.machine.specs.Arithmetics.{reckon_of, relate_of}
use Rattle.machine.specs.Steps.{plain, last, logic_as, branch_as, operate_of, perform_of, advanced_of, fetched_by, execute_of}
use Rattle.syllable.specs.declared.Logic.{Logic as LogicGroup}
use Rattle.syllable.specs.declared.Logic.TheVariants.{Lnd, Lor, Lqv, Lng}
use Rattle.syllable.specs.declared.Branch.{Branch as BranchGroup}
use Rattle.syllable.specs.declared.Branch.TheVariants.{Bfw, Bbw, Bfc, Bbc}
use Rattle.syllable.specs.declared.Operator.{Operator}
use Rattle.syllable.specs.declared.Operator.TheVariants.{Arithmetic, Relation, Logic, Branch, Mop, Mds, Ssp, Ssn, Chs, Top, Xch, Dup, Del, Nop, Lod, Std, Snd, Inx, Mks, Xit, Com, NotBuilt}
use Rattle.syllable.specs.declared.Syllable.{Syllable}
use Rattle.syllable.specs.declared.Syllable.TheVariants.{Litc, Opdc, Desc, Operator as Operates}
use Rattle.syllable.specs.ForTheorems.Propers.{Proper, litc}
use Rattle.syllable.specs.Positions.{syllable_of}
use Rattle.syllable.proofs.RoundTrip.{decode_proper}
use Rattle.machine.proofs.Sizes.{Gives, goes, stops}
use Rattle.laws.specs.Fit.{Fit, Keeps, After}
use Rattle.laws.proofs.FitSetters.{with_cl_is}
use Rattle.laws.proofs.FitStack.{Goes}
use Rattle.laws.proofs.FitWords.{flag_set, sign_set, body_set, reckon_word, relate_word}
use Rattle.laws.proofs.FitOperators.{two_fit, two_words_fit, one_word_fit, top_flag_fit, xch_fit, dup_fit, del_fit, inx_fit, litc_fit, lod_fit, snd_fit, std_fit, com_fit, always_fit, if_off_fit}
use Rattle.laws.proofs.FitCalls.{call_k_fit}
use Rattle.laws.proofs.FitMarks.{mks_fit, xit_fit}

plain_after : {P : State → Type 0} {o : Res State} → Gives P o → After P (plain o)
plain_after (goes p) = p
plain_after stops = tt

last_after : {P : State → Type 0} {o : Res State} → Gives P o → After P (last o)
last_after (goes p) = p
last_after stops = tt

logic_fit : {o : State} (x : LogicGroup) (st : State) → Keeps o st → Goes o (logic_as x st)
logic_fit Lnd st k = two_words_fit st k lnd_of (λ b a. body_set b _)
logic_fit Lor st k = two_words_fit st k lor_of (λ b a. body_set b _)
logic_fit Lqv st k = two_words_fit st k lqv_of (λ b a. body_set b _)
logic_fit Lng st k = one_word_fit st k lng_of (λ a. body_set a _)

branch_fit : {o : State} (x : BranchGroup) (st : State) → Keeps o st → Goes o (branch_as x st)
branch_fit Bfw st k = always_fit false st k
branch_fit Bbw st k = always_fit true st k
branch_fit Bfc st k = if_off_fit false st k
branch_fit Bbc st k = if_off_fit true st k

operate_fit : {o : State} (here : ℕ) (x : Operator) (st : State) → Keeps o st → After (Keeps o) (operate_of here x st)
unfolding operate_of
operate_fit here (Arithmetic x) st k = plain_after (two_fit st k (reckon_of x) (reckon_word x))
operate_fit here (Relation x) st k = plain_after (two_fit st k (relate_of x) (relate_word x))
operate_fit here (Logic x) st k = plain_after (logic_fit x st k)
operate_fit here (Branch x) st k = plain_after (branch_fit x st k)
operate_fit here Mop st k = plain_after (one_word_fit st k mop_of (λ a. flag_set a 0))
operate_fit here Mds st k = plain_after (one_word_fit st k mds_of (λ a. flag_set a 1))
operate_fit here Ssp st k = plain_after (one_word_fit st k ssp_of (λ a. sign_set a 0))
operate_fit here Ssn st k = plain_after (one_word_fit st k ssn_of (λ a. sign_set a 1))
operate_fit here Chs st k = plain_after (one_word_fit st k chs_of (λ a. sign_set a _))
operate_fit here Top st k = plain_after (top_flag_fit st k)
operate_fit here Xch st k = plain_after (xch_fit st k)
operate_fit here Dup st k = plain_after (dup_fit st k)
operate_fit here Del st k = plain_after (del_fit st k)
operate_fit here Nop st k = k
operate_fit here Lod st k = plain_after (lod_fit st k here)
operate_fit here Std st k = plain_after (std_fit st k here)
operate_fit here Snd st k = plain_after (snd_fit st k here)
operate_fit here Inx st k = plain_after (inx_fit st k)
operate_fit here Mks st k = plain_after (mks_fit st k)
operate_fit here Xit st k = plain_after (xit_fit st k)
operate_fit here Com st k = last_after (com_fit st k)
operate_fit here (NotBuilt n) st k = tt

-- A literal is a number of ten bits.
ten_bits : {n : ℕ} → Proper (Litc n) → n < 1024
ten_bits (litc h) = h

perform_fit : {o : State} (here : ℕ) (x : Syllable) → Proper x → (st : State) → Keeps o st → After (Keeps o) (perform_of here x st)
unfolding perform_of
perform_fit here (Litc n) p st k = plain_after (litc_fit st k n (ten_bits p))
perform_fit here (Opdc n) p st k = plain_after (call_k_fit false here st k n)
perform_fit here (Desc n) p st k = plain_after (call_k_fit true here st k n)
perform_fit here (Operates x) p st k = operate_fit here x st k

-- A syllable has 12 bits.
twelve_bits : (w l : ℕ) → syllable_of w l < 4096
unfolding syllable_of
twelve_bits w l =
    let e : 12 * l + 11 + 1 - 12 * l ≡ 12 = omega arith in
    subst (λ (n : ℕ). w / 2 ^ (47 - (12 * l + 11)) % 2 ^ (12 * l + 11 + 1 - 12 * l) < 2 ^ n) e (mod-lt _ (pow_pos (12 * l + 11 + 1 - 12 * l)))

advanced_fit : {o : State} (st : State) → Keeps o st → Keeps o (advanced_of st)
advanced_fit st k = with_cl_is k _ _ (omega arith) (omega arith)

fetched_by_fit : {o : State} (w : Res ℕ) (st : State) → Keeps o st → After (Keeps o) (fetched_by w st)
fetched_by_fit (on w) st k = perform_fit st.regs.c _ (decode_proper (syllable_of w st.regs.l) (twelve_bits w st.regs.l)) _ (advanced_fit st k)
fetched_by_fit (halt n) st k = tt

pub execute_fit : (st : State) → Fit st → After (Keeps st) (execute_of st)
unfolding execute_of
execute_fit st f = fetched_by_fit (read_of st.core st.regs.c) st (record { fit = f; size = refl })
