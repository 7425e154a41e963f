-- The step: fetch, advance, perform; and the checks before it.
use Rattle.std.specs.Prelude.{ℕ, ◌^◌, Bool, true, false, ◌&&◌, List, eqb, ltb}
use Rattle.machine.specs.declared.outcome.Cause.{Cause}
use Rattle.machine.specs.declared.outcome.Cause.TheVariants.{Unbuilt}
use Rattle.machine.specs.declared.outcome.Registers.{Registers}
use Rattle.machine.specs.declared.outcome.Answer.{Answer}
use Rattle.machine.specs.declared.outcome.End.{End}
use Rattle.machine.specs.declared.outcome.End.TheVariants.{On, Communicated, Stopped}
use Rattle.machine.specs.declared.outcome.Refusal.{Refusal}
use Rattle.machine.specs.declared.outcome.Refusal.TheVariants.{Core, Registers as Register, Budget}
use Rattle.std.specs.declared.result.Result.{Result}
use Rattle.std.specs.declared.result.Result.TheVariants.{Ok, Err}
use Rattle.machine.specs.Outcomes.{Res, on, halt, number_of, if◌then◌otherwise◌}
use Rattle.machine.specs.States.{State, state_of, with_cl}
use Rattle.machine.specs.Memory.{read_of}
use Rattle.machine.specs.Arithmetics.{two_of, reckon_of, relate_of}
use Rattle.machine.specs.Bits.{two_words_of, lnd_of, lor_of, lqv_of, lng_of, mop_of, mds_of, ssp_of, ssn_of, chs_of, one_word_of, top_flag_of, xch_of, dup_of, del_of, inx_of}
use Rattle.machine.specs.Stores.{litc_of, lod_of, snd_of, std_of, com_of}
use Rattle.machine.specs.Calls.{call_k_of}
use Rattle.machine.specs.Branches.{always_of, if_off_of}
use Rattle.machine.specs.Marks.{mks_of, xit_of}
use Rattle.syllable.specs.declared.Logic.{Logic as LogicGroup}
use Rattle.syllable.specs.declared.Logic.TheVariants.{Lnd, Lor, Lqv, Lng}
use Rattle.syllable.specs.declared.Branch.{Branch as BranchGroup}
use Rattle.syllable.specs.declared.Branch.TheVariants.{Bfw, Bbw, Bfc, Bbc}
use Rattle.syllable.specs.declared.Operator.{Operator}
use Rattle.syllable.specs.declared.Operator.TheVariants.{Arithmetic, Relation, Logic, Branch, Mop, Mds, Ssp, Ssn, Chs, Top, Xch, Dup, Del, Nop, Lod, Std, Snd, Inx, Mks, Xit, Com, NotBuilt}
use Rattle.syllable.specs.declared.Syllable.{Syllable}
use Rattle.syllable.specs.declared.Syllable.TheVariants.{Litc, Opdc, Desc, Operator as Operates}
use Rattle.word.specs.Core.{length_fits, words_fit, core_error_number}
use Rattle.syllable.specs.Decoding.{decode_of}
use Rattle.syllable.specs.Positions.{syllable_of, advance_of}

-- A syllable goes on, communicates (it completes, and the machine stops 17), or stops for a cause.
pub data Ended : Type 0 where
  next : State → Ended
  communicated : State → Ended
  stopped : Cause → Ended

-- How a syllable ends by how it went: COM, "stop 17. It completes", and every other.
abbrev pub plain : Res State → Ended
plain (on st) = next st
plain (halt n) = stopped n

abbrev pub last : Res State → Ended
last (on st) = communicated st
last (halt n) = stopped n

abbrev pub logic_as : LogicGroup → State → Res State
logic_as Lnd st = two_words_of lnd_of st
logic_as Lor st = two_words_of lor_of st
logic_as Lqv st = two_words_of lqv_of st
logic_as Lng st = one_word_of lng_of st

abbrev pub branch_as : BranchGroup → State → Res State
branch_as Bfw st = always_of false st
branch_as Bbw st = always_of true st
branch_as Bfc st = if_off_of false st
branch_as Bbc st = if_off_of true st

-- What each operator does; here is the present syllable's word address. "Others stop 19."
unfoldable pub operate_of : ℕ → Operator → State → Ended
operate_of here (Arithmetic o) st = plain (two_of (reckon_of o) st)
operate_of here (Relation o) st = plain (two_of (relate_of o) st)
operate_of here (Logic o) st = plain (logic_as o st)
operate_of here (Branch o) st = plain (branch_as o st)
operate_of here Mop st = plain (one_word_of mop_of st)
operate_of here Mds st = plain (one_word_of mds_of st)
operate_of here Ssp st = plain (one_word_of ssp_of st)
operate_of here Ssn st = plain (one_word_of ssn_of st)
operate_of here Chs st = plain (one_word_of chs_of st)
operate_of here Top st = plain (top_flag_of st)
operate_of here Xch st = plain (xch_of st)
operate_of here Dup st = plain (dup_of st)
operate_of here Del st = plain (del_of st)
operate_of here Nop st = next st
operate_of here Lod st = plain (lod_of here st)
operate_of here Std st = plain (std_of here st)
operate_of here Snd st = plain (snd_of here st)
operate_of here Inx st = plain (inx_of st)
operate_of here Mks st = plain (mks_of st)
operate_of here Xit st = plain (xit_of st)
operate_of here Com st = last (com_of st)
operate_of here (NotBuilt k) st = stopped Unbuilt

-- "A syllable is read as a literal, an operand call, a descriptor call or an operator": LITC, OPDC, DESC, or what the operator does.
unfoldable pub perform_of : ℕ → Syllable → State → Ended
perform_of here (Litc k) st = plain (litc_of st k)
perform_of here (Opdc k) st = plain (call_k_of false here st k)
perform_of here (Desc k) st = plain (call_k_of true here st k)
perform_of here (Operates o) st = operate_of here o st

-- "The step reads at C, L, then advances; 32767 with L=3 advances to 0, 0."
abbrev pub advanced_of : State → State
advanced_of st = with_cl st (advance_of st.regs.c st.regs.l).c (advance_of st.regs.c st.regs.l).l

abbrev pub fetched_by : Res ℕ → State → Ended
fetched_by (on w) st = perform_of st.regs.c (decode_of (syllable_of w st.regs.l)) (advanced_of st)
fetched_by (halt n) st = stopped n

-- "fetch (11), then as written above"
unfoldable pub execute_of : State → Ended
execute_of st = fetched_by (read_of st.core st.regs.c) st

-- "each full or empty; empty holds 0"
abbrev pub holds_word : Bool → ℕ → Bool
holds_word full x = if full then ltb x (2 ^ 48) otherwise eqb x 0

-- "3: a register .. out of range, or an empty register not 0": S, F, C 15 bits, R 9, L 2
unfoldable pub registers_fit : Registers → Bool
registers_fit g =
    holds_word g.afull g.a && holds_word g.bfull g.b && ltb g.s 32768 && ltb g.f 32768 && ltb g.c 32768
    && ltb g.r 512
    && ltb g.l 4

-- "Order: 1, 2, 3": the first that fails, or 0.
unfoldable pub refusal_of : List ℕ → Registers → ℕ
refusal_of core g =
    if length_fits core then (if words_fit core then (if registers_fit g then 0 otherwise 3) otherwise 2) otherwise 1

-- A number given back, the core and the registers.
pub record Stepped : Type 0 where
  pub number : ℕ
  pub core : List ℕ
  pub regs : Registers

-- "0 means went on, .. Every number but 17 leaves registers and core as before that syllable, or untouched if given before it."
abbrev pub ended_as : Ended → State → Stepped
ended_as (next u) st = record { number = 0; core = u.core; regs = u.regs }
ended_as (communicated u) st = record { number = 17; core = u.core; regs = u.regs }
ended_as (stopped n) st = record { number = number_of n; core = st.core; regs = st.regs }

unfoldable pub step_of : List ℕ → Registers → Stepped
step_of core g =
    if eqb (refusal_of core g) 0 then ended_as (execute_of (state_of core g)) (state_of core g)
    otherwise record { number = refusal_of core g; core = core; regs = g }

-- "0 means went on, or budget spent"; 17 for COM; else the cause's number.
abbrev pub end_number : End → ℕ
end_number On = 0
end_number Communicated = 17
end_number (Stopped n) = number_of n

-- 1 and 2 of the core; "3: a register .. out of range, or an empty register not 0"; "5: budget over 1,000,000"
abbrev pub refusal_number : Refusal → ℕ
refusal_number (Core e) = core_error_number e
refusal_number Register = 3
refusal_number Budget = 5

-- A step's answer with the core that it left; a refusal leaves the registers g, which it was handed.
abbrev pub answered : Registers → Result Answer Refusal → List ℕ → Stepped
answered g (Ok r) core = record { number = end_number r.end; core = core; regs = r.regs }
answered g (Err n) core = record { number = refusal_number n; core = core; regs = g }
