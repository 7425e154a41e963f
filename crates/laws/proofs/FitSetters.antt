-- Each setter keeps a state fit; the rest of the proof never opens a record. Here and there, o is the state at which the syllable began.
use mathlib.Core.Path.{◌≡◌, refl, ◌∙◌}
use mathlib.Core.Bool.{Bool, true, false}
use mathlib.Core.List.{List, [], ◌∷◌}
use Prim.Native.Nat.{ℕ, zero, suc, ◌<◌}
use native.Mathlib.Omega.{arith}
use lib.ListN.{length, get_or, set, length-set}
use Rattle.machine.specs.declared.outcome.Registers.{Registers}
use Rattle.machine.specs.States.{State, set_a, set_b, with_regs, fill_a, empty_a, fill_b, empty_b, with_s, with_f, with_cl, with_r, with_salf, with_msff, store}
use Rattle.laws.specs.Fit.{Word, Words, Holds, InRange, Keeps}

-- Full or empty, a register holds a word.
word_of : (full : Bool) (x : ℕ) → Holds full x → Word x
word_of true x h = h
word_of false x h = omega arith

with_regs_is : {o st : State} {g : Registers} → Keeps o st → InRange g → Keeps o (with_regs st g)
with_regs_is k h = record { fit = record { some = k.fit.some; most = k.fit.most; words = k.fit.words; regs = h }; size = k.size }

module _ {o st : State} (k : Keeps o st) where
  was : InRange st.regs
  was = k.fit.regs

  pub word_a : Word st.regs.a
  word_a = word_of st.regs.afull st.regs.a was.a

  pub word_b : Word st.regs.b
  word_b = word_of st.regs.bfull st.regs.b was.b

  put_a : (full : Bool) (x : ℕ) → Holds full x → Keeps o (with_regs st (set_a st.regs full x))
  put_a full x h = with_regs_is k (record { a = h; b = was.b; s = was.s; f = was.f; c = was.c; r = was.r; l = was.l })

  put_b : (full : Bool) (x : ℕ) → Holds full x → Keeps o (with_regs st (set_b st.regs full x))
  put_b full x h = with_regs_is k (record { a = was.a; b = h; s = was.s; f = was.f; c = was.c; r = was.r; l = was.l })

  pub fill_a_is : (x : ℕ) → Word x → Keeps o (fill_a st x)
  fill_a_is x h = put_a true x h

  pub empty_a_is : Keeps o (empty_a st)
  empty_a_is = put_a false 0 refl

  pub fill_b_is : (x : ℕ) → Word x → Keeps o (fill_b st x)
  fill_b_is x h = put_b true x h

  pub empty_b_is : Keeps o (empty_b st)
  empty_b_is = put_b false 0 refl

  pub with_s_is : (x : ℕ) → x < 32768 → Keeps o (with_s st x)
  with_s_is x h = with_regs_is k (record { a = was.a; b = was.b; s = h; f = was.f; c = was.c; r = was.r; l = was.l })

  pub with_f_is : (x : ℕ) → x < 32768 → Keeps o (with_f st x)
  with_f_is x h = with_regs_is k (record { a = was.a; b = was.b; s = was.s; f = h; c = was.c; r = was.r; l = was.l })

  pub with_cl_is : (c l : ℕ) → c < 32768 → l < 4 → Keeps o (with_cl st c l)
  with_cl_is c l h i = with_regs_is k (record { a = was.a; b = was.b; s = was.s; f = was.f; c = h; r = was.r; l = i })

  pub with_r_is : (x : ℕ) → x < 512 → Keeps o (with_r st x)
  with_r_is x h = with_regs_is k (record { a = was.a; b = was.b; s = was.s; f = was.f; c = was.c; r = h; l = was.l })

  pub with_salf_is : (x : Bool) → Keeps o (with_salf st x)
  with_salf_is x = with_regs_is k (record { a = was.a; b = was.b; s = was.s; f = was.f; c = was.c; r = was.r; l = was.l })

  pub with_msff_is : (x : Bool) → Keeps o (with_msff st x)
  with_msff_is x = with_regs_is k (record { a = was.a; b = was.b; s = was.s; f = was.f; c = was.c; r = was.r; l = was.l })

-- A word that is written leaves every word a word.
words_set : (core : List ℕ) (m w i : ℕ) → Word w → Words core → Word (get_or (set core m w) i 0)
words_set [] m w i h all = all i
words_set (x ∷ core) zero w zero h all = h
words_set (x ∷ core) zero w (suc i) h all = all (suc i)
words_set (x ∷ core) (suc m) w zero h all = all 0
words_set (x ∷ core) (suc m) w (suc i) h all = words_set core m w i h (λ j. all (suc j))

pub store_fit : {o st : State} → Keeps o st → (m w : ℕ) → Word w → Keeps o (store st m w)
store_fit {o} {st} k m w h =
    let e : length (set st.core m w) ≡ length st.core = length-set st.core m w in
    record {
      fit = record { some = omega (arith, e, k.fit.some); most = omega (arith, e, k.fit.most); words = λ i. words_set st.core m w i h k.fit.words; regs = k.fit.regs };
      size = e ∙ k.size;
    }
