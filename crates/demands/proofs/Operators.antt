-- The operators on A, B and numbers leave what the scan says.
use Prim.Native.Nat.{ℕ, ◌<◌, ◌≤◌}
use mathlib.Core.Path.{◌≡◌, refl, sym, ◌∙◌, subst}
use mathlib.Core.Bool.{Bool, true, false, not, ◌&&◌}
use mathlib.Core.List.{List, [], ◌∷◌}
use native.Mathlib.Omega.{arith}
use lib.IntN.{ℤ}
use lib.ListN.{length}
use Rattle.machine.specs.Outcomes.{Res}
use Rattle.machine.specs.States.{State, fill_a}
use Rattle.machine.specs.Arithmetics.{two_of}
use Rattle.machine.specs.Bits.{two_words_of, one_word_of, top_flag_of, xch_of, dup_of, del_of}
use Rattle.machine.specs.Stores.{litc_of}
use Rattle.word.specs.Layout.{flag_of}
use Rattle.sheet.specs.Sheets.{room_of}
use Rattle.inspector.specs.Scan.{Item, literal, number, Shape, Left, leaves, breaks, when, value, two_values, one_value, tested, exchanged, doubled, deleted}
use Rattle.demands.proofs.Tests.{shows_and, shows}
use Rattle.demands.proofs.Safe.{Safe, goes, safe_bind}
use Rattle.demands.proofs.Passed.{Passed}
use Rattle.demands.proofs.Holds.{Fits, is, plain, Kept, Set, RestOf, At, full, empty}
use Rattle.demands.proofs.Stacks.{register_some, rest_full, rest_some}
use Rattle.demands.proofs.Adjusts.{push_b, a_empty, a_full, b_full, both_full}
use Rattle.demands.proofs.Words.{Off, value_off, one_off, taken_safe}

-- A syllable that the scan does not break leaves what it says, at place p.
abbrev pub Does : List ℕ → List ℕ → ℕ → Left → Res State → Type 0
Does core sheet p (leaves xs) o = length xs ≤ room_of sheet → Safe (At core sheet p xs) o
Does core sheet p breaks o = Unit {0}

pub does_when : (core sheet : List ℕ) (p : ℕ) (b : Bool) {xs : Shape} {o : Res State} → (b ≡ true → length xs ≤ room_of sheet → Safe (At core sheet p xs) o) → Does core sheet p (when b xs) o
does_when core sheet p true f = f refl
does_when core sheet p false f = tt

module _ (core sheet : List ℕ) (ok : Passed core sheet) (p : ℕ) (st : State) where
  -- A filled over the rest.
  pub at_a : (v : State) {x : Item} {xs : Shape} {w : ℕ} → Kept core sheet v.core → Set sheet p v.regs.r v.regs.salf v.regs.c v.regs.l → length (x ∷ xs) ≤ room_of sheet → Fits core sheet x w → RestOf core sheet xs v → At core sheet p (x ∷ xs) (fill_a v w)
  at_a v k h room f r = record { kept = k; set = h; room = room; mid = _; top = full f; rest = r }

  pub litc_does : (n : ℕ) → n < 1024 → (xs : Shape) → At core sheet p xs st → Does core sheet p (leaves (literal n ∷ xs)) (litc_of st n)
  unfolding litc_of
  litc_does n h xs v room = safe_bind (a_empty core sheet ok p st xs v) (λ u i. goes (at_a u i.kept i.set room (is h) i.rest))

  pub two_does : (f : ℤ → ℤ → Res ℕ) → ((y x : ℤ) → Safe Off (f y x)) → (xs : Shape) → At core sheet p xs st → Does core sheet p (two_values xs) (two_of f st)
  unfolding two_of
  two_does f h [] v = tt
  two_does f h (a ∷ []) v = tt
  two_does f h (a ∷ b ∷ xs) v =
      does_when core sheet p (value a && value b)
      (λ _ room. safe_bind (both_full core sheet ok p st a b xs v)
      (λ u i. safe_bind (taken_safe u.regs.a)
      (λ x _. safe_bind (taken_safe u.regs.b)
      (λ y _. safe_bind (h y x)
      (λ w j. goes (record { kept = i.kept; set = i.set; room = room; mid = number ∷ xs; top = empty; rest = rest_full core sheet (plain j) i.under }))))))

  pub two_words_does : (f : ℕ → ℕ → ℕ) → ((b a : ℕ) → Off b → Off (f b a)) → (xs : Shape) → At core sheet p xs st → Does core sheet p (two_values xs) (two_words_of f st)
  unfolding two_words_of
  two_words_does f h [] v = tt
  two_words_does f h (a ∷ []) v = tt
  two_words_does f h (a ∷ b ∷ xs) v =
      does_when core sheet p (value a && value b)
      (λ e room. safe_bind (both_full core sheet ok p st a b xs v)
      (λ u i. goes (record { kept = i.kept; set = i.set; room = room; mid = number ∷ xs; top = empty; rest = rest_full core sheet (plain (h _ _ (value_off (shows_and (shows (value a)) (shows (value b)) e).1 i.b))) i.under })))

  pub one_word_does : (f : ℕ → ℕ) → ((a : ℕ) → Off a → Off (f a)) → (xs : Shape) → At core sheet p xs st → Does core sheet p (one_value xs) (one_word_of f st)
  unfolding one_word_of
  one_word_does f h [] v = tt
  one_word_does f h (a ∷ xs) v =
      does_when core sheet p (value a)
      (λ e room. safe_bind (a_full core sheet ok p st a xs v) (λ u i. goes (at_a u i.kept i.set room (plain (h _ (value_off e i.a))) i.rest)))

  pub top_does : (xs : Shape) → At core sheet p xs st → Does core sheet p (tested xs) (top_flag_of st)
  unfolding top_flag_of
  top_does [] v = tt
  top_does (b ∷ xs) v =
      does_when core sheet p (value b)
      (λ e room. safe_bind (a_empty core sheet ok p st (b ∷ xs) v)
      (λ u i. safe_bind (b_full core sheet ok p u b xs i.kept i.set i.rest v.room)
      (λ t j. goes (at_a t j.kept j.set room (plain (one_off (not (flag_of t.regs.b)))) (rest_some core sheet j.on j.b j.under)))))

  pub xch_does : (xs : Shape) → At core sheet p xs st → Does core sheet p (exchanged xs) (xch_of st)
  unfolding xch_of
  xch_does [] v = tt
  xch_does (a ∷ []) v = tt
  xch_does (a ∷ b ∷ xs) v =
      λ room. safe_bind (both_full core sheet ok p st a b xs v)
      (λ u i. goes (record { kept = i.kept; set = i.set; room = room; mid = a ∷ xs; top = full i.b; rest = rest_full core sheet i.a i.under }))

  pub dup_does : (xs : Shape) → At core sheet p xs st → Does core sheet p (doubled xs) (dup_of st)
  unfolding dup_of
  dup_does [] v = tt
  dup_does (a ∷ xs) v =
      λ room. safe_bind (a_full core sheet ok p st a xs v)
      (λ u i. safe_bind (push_b core sheet ok p u xs i.kept i.set i.rest (omega (arith, v.room)))
      (λ t j.
      let f : Fits core sheet a t.regs.a = subst (λ (w : ℕ). Fits core sheet a w) (sym j.was.a) i.a in
      goes (record { kept = j.kept; set = j.set; room = room; mid = a ∷ xs; top = register_some core sheet (j.was.full ∙ i.on) f; rest = rest_full core sheet f j.under })))

  pub del_does : (xs : Shape) → At core sheet p xs st → Does core sheet p (deleted xs) (del_of st)
  unfolding del_of
  del_does [] v = tt
  del_does (a ∷ xs) v =
      λ room. safe_bind (a_full core sheet ok p st a xs v) (λ u i. goes (record { kept = i.kept; set = i.set; room = room; mid = xs; top = empty; rest = i.rest }))
