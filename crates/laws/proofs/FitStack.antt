-- Reading, storing, pushing and the adjustments keep a state fit.
use Prim.Native.Nat.{ℕ, ◌-◌}
use native.Mathlib.Omega.{arith}
use lib.Dec.{eqb}
use lib.ListN.{length}
use Rattle.machine.specs.Outcomes.{Res}
use Rattle.machine.specs.States.{State}
use Rattle.machine.specs.Memory.{in_core, read_of, store_of}
use Rattle.machine.specs.Stack.{push_of, top_of, down, push_b_of, push_a_of, a_empty_of, a_full_of, b_full_of, both_full_of}
use Rattle.machine.proofs.Sizes.{Gives, goes, stops, gives_if, gives_bind, any, slot_gives}
use Rattle.laws.specs.Fit.{Word, Keeps}
use Rattle.laws.proofs.FitSetters.{word_a, word_b, fill_a_is, empty_a_is, fill_b_is, empty_b_is, with_s_is, store_fit}

-- Going on, a part of a syllable that began at o keeps it fit.
abbrev pub Goes : State → Res State → Type 0
Goes o = Gives (Keeps o)

module _ {o : State} (st : State) (k : Keeps o st) where
  pub read_fit : (m : ℕ) → Gives Word (read_of st.core m)
  unfolding read_of
  read_fit m = gives_bind (any (in_core (length st.core) m)) (λ at _. goes (k.fit.words at))

  pub store_of_fit : (m w : ℕ) → Word w → Goes o (store_of st m w)
  unfolding store_of
  store_of_fit m w h = gives_bind (any (in_core (length st.core) m)) (λ at _. goes (store_fit k at w h))

  -- S+1 is below the core length, and so below 32,768.
  pub push_fit : (w : ℕ) → Word w → Goes o (push_of st w)
  unfolding push_of
  push_fit w h =
      gives_bind (slot_gives (length st.core) st.regs.s st.regs.r)
      (λ m i. goes (with_s_is (store_fit k m w h) m (omega (arith, k.fit.most))))

  pub push_b_fit : Goes o (push_b_of st)
  unfolding push_b_of
  push_b_fit = gives_if st.regs.bfull (λ _. gives_bind (push_fit st.regs.b (word_b k)) (λ u i. goes (empty_b_is i))) (λ _. goes k)

  pub push_a_fit : Goes o (push_a_of st)
  unfolding push_a_of
  push_a_fit = gives_if st.regs.afull (λ _. gives_bind (push_fit st.regs.a (word_a k)) (λ u i. goes (empty_a_is i))) (λ _. goes k)

  top_fit : Gives Word (top_of st.core st.regs.s)
  unfolding top_of
  top_fit = gives_if (eqb st.regs.s 0) (λ _. stops) (λ _. read_fit st.regs.s)

  down_fit : Keeps o (down st)
  down_fit = with_s_is k (st.regs.s - 1) (omega (arith, k.fit.regs.s))

  pub a_empty_fit : Goes o (a_empty_of st)
  unfolding a_empty_of
  a_empty_fit =
      gives_if st.regs.afull (λ _. gives_bind push_b_fit (λ u i. goes (empty_a_is (fill_b_is i u.regs.a (word_a i))))) (λ _. goes k)

  pub a_full_fit : Goes o (a_full_of st)
  unfolding a_full_of
  a_full_fit =
      gives_if st.regs.afull (λ _. goes k)
      (λ _. gives_if st.regs.bfull (λ _. goes (empty_b_is (fill_a_is k st.regs.b (word_b k))))
      (λ _. gives_bind top_fit (λ w h. goes (fill_a_is down_fit w h))))

  pub b_full_fit : Goes o (b_full_of st)
  unfolding b_full_of
  b_full_fit = gives_if st.regs.bfull (λ _. goes k) (λ _. gives_bind top_fit (λ w h. goes (fill_b_is down_fit w h)))

pub both_full_fit : {o : State} (st : State) → Keeps o st → Goes o (both_full_of st)
unfolding both_full_of
both_full_fit st k = gives_bind (a_full_fit st k) b_full_fit
