-- OPDC, DESC and calling A keep a state fit.
use Prim.Native.Nat.{ℕ, ◌<◌}
use mathlib.Core.Bool.{Bool, true, false, not, ◌&&◌}
use native.Mathlib.Omega.{arith}
use lib.Dec.{eqb}
use Rattle.word.specs.Choices.{if◌then◌otherwise◌}
use Rattle.machine.specs.States.{State}
use Rattle.machine.specs.Memory.{k_address_of}
use Rattle.machine.specs.Calls.{index_of, indexed_of, load_of, data_call_of, mark_of, enter_of, program_call_of, left_of, call_as, call_of, fetched_of, call_k_of}
use Rattle.word.specs.Layout.{flag_of, presence_of, size_of, address_of, mode_of, argument_of, f_field_of}
use Rattle.word.specs.Kinds.{kind_of}
use Rattle.word.specs.declared.kinds.Kind.{Kind}
use Rattle.word.specs.declared.kinds.Kind.TheVariants.{Operand, Data, Program, Control}
use Rattle.machine.proofs.Sizes.{goes, stops, gives_if, gives_bind, any}
use Rattle.laws.specs.Fit.{Word, Keeps}
use Rattle.laws.proofs.FitSetters.{word_a, fill_a_is, empty_a_is, empty_b_is, with_f_is, with_cl_is, with_salf_is, with_msff_is}
use Rattle.laws.proofs.FitStack.{Goes, read_fit, push_fit, push_b_fit, a_empty_fit, b_full_fit}
use Rattle.laws.proofs.FitWords.{size_set, address_set, data_word, mscw_word, rcw_word}

indexed_fit : {o : State} (st : State) → Keeps o st → (d : ℕ) → Word d → Goes o (indexed_of st d)
unfolding indexed_of
indexed_fit st k d h =
    gives_if (eqb (size_of d) 0) (λ _. goes k)
    (λ _. gives_bind (b_full_fit st k)
    (λ u i. gives_bind (any (index_of u.regs.b (size_of d)))
    (λ n _. goes (empty_b_is (fill_a_is i _ (address_set _ _ (size_set d 0 h)))))))

load_fit : {o : State} (st : State) → Keeps o st → Goes o (load_of st)
unfolding load_of
load_fit st k = gives_bind (read_fit st k (address_of st.regs.a)) (λ w h. gives_if (flag_of w) (λ _. stops) (λ _. goes (fill_a_is k w h)))

data_call_fit : {o : State} (desc : Bool) (st : State) → Keeps o st → (d : ℕ) → Word d → Goes o (data_call_of desc st d)
unfolding data_call_of
data_call_fit desc st k d h = gives_bind (indexed_fit st k d h) (λ u i. gives_if desc (λ _. goes i) (λ _. load_fit u i))

mark_fit : {o : State} (argument : Bool) (st : State) → Keeps o st → Goes o (mark_of argument st)
unfolding mark_of
mark_fit argument st k =
    gives_if argument (λ _. goes k)
    (λ _. gives_bind (push_fit st k _ (mscw_word st.regs.r st.regs.msff st.regs.salf st.regs.f))
    (λ u i. goes (with_f_is i u.regs.s i.fit.regs.s)))

chosen : (b : Bool) (x y : ℕ) → x < 32768 → y < 32768 → (if b then x otherwise y) < 32768
unfolding if◌then◌otherwise◌
chosen true x y h i = h
chosen false x y h i = i

enter_fit : {o : State} (desc : Bool) (st : State) → Keeps o st → (d : ℕ) → Goes o (enter_of desc st d)
unfolding enter_of
enter_fit desc st k d =
    gives_bind (push_b_fit _ (empty_a_is k))
    (λ u i. gives_bind (mark_fit (argument_of d) u i)
    (λ v j. gives_bind (push_fit v j _ (rcw_word desc v.regs.l v.regs.f v.regs.c))
    (λ w h. goes (with_msff_is (with_salf_is (with_cl_is (with_f_is h _ (chosen (argument_of d) w.regs.s (f_field_of d) h.fit.regs.s (omega arith))) (address_of d) 0 (omega arith) (omega arith)) true) false))))

program_call_fit : {o : State} (desc : Bool) (st : State) → Keeps o st → (d : ℕ) → Goes o (program_call_of desc st d)
unfolding program_call_of
program_call_fit desc st k d =
    gives_if (mode_of d) (λ _. stops)
    (λ _. gives_if (argument_of d && not st.regs.msff) (λ _. goes k) (λ _. enter_fit desc st k d))

left_fit : {o : State} (desc : Bool) (m : ℕ) (st : State) → Keeps o st → Goes o (left_of desc m st)
unfolding left_of
left_fit desc m st k = gives_if desc (λ _. goes (fill_a_is k _ (data_word true 0 m))) (λ _. goes k)

call_as_fit : {o : State} (kind : Kind) (desc : Bool) (m : ℕ) (st : State) → Keeps o st → (d : ℕ) → Word d → Goes o (call_as kind desc m st d)
call_as_fit Operand desc m st k d h = left_fit desc m st k
call_as_fit Control desc m st k d h = left_fit desc m st k
call_as_fit Data desc m st k d h = gives_if (presence_of d) (λ _. data_call_fit desc st k d h) (λ _. stops)
call_as_fit Program desc m st k d h = gives_if (presence_of d) (λ _. program_call_fit desc st k d) (λ _. stops)

call_fit : {o : State} (desc : Bool) (m : ℕ) (st : State) → Keeps o st → Goes o (call_of desc m st)
unfolding call_of
call_fit desc m st k = call_as_fit (kind_of st.regs.a) desc m st k st.regs.a (word_a k)

fetched_fit : {o : State} (desc : Bool) (here : ℕ) (st : State) → Keeps o st → (n : ℕ) → Goes o (fetched_of desc here st n)
unfolding fetched_of
fetched_fit desc here st k n = gives_bind (any (k_address_of here st n)) (λ m _. call_fit desc m _ (fill_a_is k _ (k.fit.words m)))

pub call_k_fit : {o : State} (desc : Bool) (here : ℕ) (st : State) → Keeps o st → (n : ℕ) → Goes o (call_k_of desc here st n)
unfolding call_k_of
call_k_fit desc here st k n = gives_bind (a_empty_fit st k) (λ u i. fetched_fit desc here u i n)
