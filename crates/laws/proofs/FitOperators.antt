-- The operators on numbers, words, core and place keep a state fit.
use Prim.Native.Nat.{ℕ, ◌+◌, ◌*◌, ◌/◌, ◌%◌, ◌<◌}
use mathlib.Core.Bool.{Bool, not}
use native.Mathlib.Omega.{arith}
use borrow.Author.Tests.{ltb-false}
use lib.Dec.{ltb}
use lib.IntN.{ℤ}
use Rattle.machine.specs.Outcomes.{Res}
use Rattle.machine.specs.States.{State}
use Rattle.machine.specs.Arithmetics.{taken_of, two_of}
use Rattle.machine.specs.Bits.{two_words_of, one_word_of, top_flag_of, xch_of, dup_of, del_of, inx_of}
use Rattle.machine.specs.Stores.{litc_of, place_of, lod_of, snd_of, std_of, com_of}
use Rattle.machine.specs.Branches.{landing_of, jump_of, always_of, if_off_of}
use Rattle.word.specs.Field.{field, bit}
use Rattle.word.specs.Layout.{flag_of, presence_of, address_of}
use Rattle.machine.proofs.Sizes.{Gives, goes, stops, gives_if, gives_bind, any}
use Rattle.laws.specs.Fit.{Word, Keeps}
use Rattle.laws.proofs.FitSetters.{word_a, word_b, fill_a_is, empty_a_is, fill_b_is, empty_b_is, with_cl_is, store_fit}
use Rattle.laws.proofs.FitStack.{Goes, store_of_fit, push_b_fit, a_empty_fit, a_full_fit, b_full_fit, both_full_fit}
use Rattle.laws.proofs.FitWords.{address_set, one_word}

module _ {o : State} (st : State) (k : Keeps o st) where
  -- ---- groups, with the small function as a parameter

  pub two_fit : (f : ℤ → ℤ → Res ℕ) → ((y x : ℤ) → Gives Word (f y x)) → Goes o (two_of f st)
  unfolding two_of
  two_fit f h =
      gives_bind (both_full_fit st k)
      (λ u i. gives_bind (any (taken_of u.regs.a))
      (λ x _. gives_bind (any (taken_of u.regs.b)) (λ y _. gives_bind (h y x) (λ w j. goes (empty_a_is (fill_b_is i w j))))))

  pub two_words_fit : (f : ℕ → ℕ → ℕ) → ((b a : ℕ) → Word b → Word (f b a)) → Goes o (two_words_of f st)
  unfolding two_words_of
  two_words_fit f h = gives_bind (both_full_fit st k) (λ u i. goes (empty_a_is (fill_b_is i _ (h _ u.regs.a (word_b i)))))

  pub one_word_fit : (f : ℕ → ℕ) → ((a : ℕ) → Word a → Word (f a)) → Goes o (one_word_of f st)
  unfolding one_word_of
  one_word_fit f h = gives_bind (a_full_fit st k) (λ u i. goes (fill_a_is i _ (h _ (word_a i))))

  -- ---- A and B

  pub top_flag_fit : Goes o (top_flag_of st)
  unfolding top_flag_of
  top_flag_fit =
      gives_bind (a_empty_fit st k) (λ u i. gives_bind (b_full_fit u i) (λ v j. goes (fill_a_is j _ (one_word (not (flag_of v.regs.b))))))

  pub xch_fit : Goes o (xch_of st)
  unfolding xch_of
  xch_fit = gives_bind (both_full_fit st k) (λ u i. goes (fill_b_is (fill_a_is i _ (word_b i)) _ (word_a i)))

  pub dup_fit : Goes o (dup_of st)
  unfolding dup_of
  dup_fit = gives_bind (a_full_fit st k) (λ u i. gives_bind (push_b_fit u i) (λ v j. goes (fill_b_is j _ (word_a j))))

  pub del_fit : Goes o (del_of st)
  unfolding del_of
  del_fit = gives_bind (a_full_fit st k) (λ u i. goes (empty_a_is i))

  pub inx_fit : Goes o (inx_of st)
  unfolding inx_of
  inx_fit =
      gives_bind (both_full_fit st k) (λ u i. goes (empty_b_is (fill_a_is i _ (address_set _ _ (word_a i)))))

  -- ---- core

  pub litc_fit : (n : ℕ) → n < 1024 → Goes o (litc_of st n)
  unfolding litc_of
  litc_fit n h = gives_bind (a_empty_fit st k) (λ u i. goes (fill_a_is i n (omega arith)))

  pub lod_fit : (here : ℕ) → Goes o (lod_of here st)
  unfolding lod_of
  lod_fit here =
      gives_bind (a_full_fit st k) (λ u i. gives_bind (any (place_of here u u.regs.a)) (λ m _. goes (fill_a_is i _ (i.fit.words m))))

  pub snd_fit : (here : ℕ) → Goes o (snd_of here st)
  unfolding snd_of
  snd_fit here =
      gives_bind (both_full_fit st k)
      (λ u i. gives_bind (any (place_of here u u.regs.a)) (λ m _. goes (empty_a_is (store_fit i m _ (word_b i)))))

  pub std_fit : (here : ℕ) → Goes o (std_of here st)
  unfolding std_of
  std_fit here = gives_bind (snd_fit here) (λ u i. goes (empty_b_is i))

  pub com_fit : Goes o (com_of st)
  unfolding com_of
  com_fit = gives_bind (a_full_fit st k) (λ u i. gives_bind (store_of_fit u i _ _ (word_a i)) (λ v j. goes (empty_a_is j)))

-- ---- place

landing_in : (back : Bool) (n d : ℕ) → n < 131072 → Gives (λ (m : ℕ). m < 131072) (landing_of back n d)
unfolding landing_of
landing_in back n d h =
    gives_if back (λ _. gives_if (ltb n d) (λ _. stops) (λ _. goes (omega arith)))
    (λ _. gives_if (ltb 131071 (n + d)) (λ _. stops) (λ t. goes (omega (arith, ltb-false 131071 (n + d) t))))

module _ {o : State} (back : Bool) (st : State) (k : Keeps o st) where
  jump_fit : (w : ℕ) → Goes o (jump_of back st w)
  unfolding jump_of
  jump_fit w =
      gives_if (flag_of w)
      (λ _. gives_if (presence_of w) (λ _. goes (with_cl_is k (address_of w) 0 (omega arith) (omega arith))) (λ _. stops))
      (λ _. gives_bind (landing_in back (4 * st.regs.c + st.regs.l) (field w 36 47) (omega (arith, k.fit.regs.c, k.fit.regs.l)))
      (λ n h. goes (with_cl_is k (n / 4) (n % 4) (omega arith) (omega arith))))

module _ {o : State} (back : Bool) (st : State) (k : Keeps o st) where
  pub always_fit : Goes o (always_of back st)
  unfolding always_of
  always_fit = gives_bind (a_full_fit st k) (λ u i. jump_fit back _ (empty_a_is i) u.regs.a)

  pub if_off_fit : Goes o (if_off_of back st)
  unfolding if_off_of
  if_off_fit =
      gives_bind (both_full_fit st k)
      (λ u i. gives_if (bit u.regs.b 47) (λ _. goes (empty_b_is (empty_a_is i))) (λ _. jump_fit back _ (empty_b_is (empty_a_is i)) u.regs.a))
