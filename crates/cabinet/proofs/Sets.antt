-- The checks of a register set's bytes, and the row of a fit set is of words.
use Prim.Native.Nat.{ℕ, ◌^◌, ◌<◌}
use mathlib.Core.Path.{◌≡◌, refl}
use mathlib.Core.Bool.{Bool, true, false}
use mathlib.Core.List.{List, [], ◌∷◌}
use native.Mathlib.Omega.{arith}
use borrow.Author.Tests.{lt-ltb, eq-eqb, ne_eqb, eqb-true, eqb-false}
use lib.Dec.{eqb}
use lib.ListN.{length}
use Rattle.std.specs.declared.result.Result.TheVariants.{Ok, Err}
use Rattle.machine.specs.declared.outcome.Registers.{Registers}
use Rattle.machine.specs.declared.outcome.Refusal.{Refusal}
use Rattle.machine.specs.declared.outcome.Refusal.TheVariants.{Registers as Register}
use Rattle.word.specs.Core.{words_fit}
use Rattle.word.specs.Field.{one_of}
use Rattle.word.specs.Choices.{if◌then◌otherwise◌}
use Rattle.tape.specs.Files.{words_of}
use Rattle.laws.specs.Fit.{Word, Holds, InRange as RangedSet}
use Rattle.cabinet.specs.Lengths.{core_number_of}
use Rattle.cabinet.specs.Rows.{row_of, set_of, marks_fit, lengths_number_of, row_number_of}
use Rattle.cabinet.specs.ForCode.Rooms.{narrow_set, set_by, set_read}

-- ---- from a row

-- A core that is refused is refused first.
module _ (n : ℕ) {m : ℕ} (e : m ≡ core_number_of n) (z : m ≡ 0 → ⊥) where
  pub lengths_first : (row : ℕ) → m ≡ lengths_number_of n row
  unfolding lengths_number_of if◌then◌otherwise◌
  lengths_first row = rw (← e, ne_eqb m 0 z)

  pub row_first : (regs : List ℕ) → m ≡ row_number_of n regs
  unfolding row_number_of if◌then◌otherwise◌
  row_first regs = rw (← lengths_first (length regs), ne_eqb m 0 z)

-- Then a set that is not 66 bytes, or has a mark that is neither 0 nor 1.
module _ (n : ℕ) (good : core_number_of n ≡ 0) where
  pub lengths_odd : {row : ℕ} → (row ≡ 66 → ⊥) → 3 ≡ lengths_number_of n row
  unfolding lengths_number_of if◌then◌otherwise◌
  lengths_odd {row} h = rw (good, ne_eqb row 66 h)

  pub lengths_good : {row : ℕ} → row ≡ 66 → lengths_number_of n row ≡ 0
  unfolding lengths_number_of if◌then◌otherwise◌
  lengths_good {row} h = rw (good, eq-eqb row 66 h)

  -- The set that was read, of bytes whose check gave 0.
  pub record Taken (regs : List ℕ) (g : Registers) : Type 0 where
    pub number : row_number_of n regs ≡ 0
    pub row : length regs ≡ 66
    pub set : g ≡ narrow_set (set_of (words_of 11 regs))

  pub taken : (regs : List ℕ) {g : Registers} → Ok g ≡ set_read regs → Taken regs g
  unfolding set_read set_by row_number_of if◌then◌otherwise◌
  taken regs {g} e = by (eqb (length regs) 66) (marks_fit (words_of 11 regs)) refl refl e
    where
      by : (a b : Bool) → eqb (length regs) 66 ≡ a → marks_fit (words_of 11 regs) ≡ b
          → Ok g ≡ (if a then (if b then Ok (narrow_set (set_of (words_of 11 regs))) otherwise Err Register) otherwise Err Register) → Taken regs g
      by true true p q e =
          let l : length regs ≡ 66 = eqb-true (length regs) 66 p in
          record { number = rw (lengths_good l, q); row = l; set = cc }
      by true false p q e = cc
      by false b p q e = cc

  pub untaken : (regs : List ℕ) {why : Refusal} → Err why ≡ set_read regs → (why ≡ Register) × (3 ≡ row_number_of n regs)
  unfolding set_read set_by row_number_of if◌then◌otherwise◌
  untaken regs {why} e = by (eqb (length regs) 66) (marks_fit (words_of 11 regs)) refl refl e
    where
      by : (a b : Bool) → eqb (length regs) 66 ≡ a → marks_fit (words_of 11 regs) ≡ b
          → Err why ≡ (if a then (if b then Ok (narrow_set (set_of (words_of 11 regs))) otherwise Err Register) otherwise Err Register) → (why ≡ Register) × (3 ≡ row_number_of n regs)
      by true true p q e = cc
      by true false p q e = (cc, rw (lengths_good (eqb-true (length regs) 66 p), q))
      by false b p q e = (cc, rw (← lengths_odd (eqb-false (length regs) 66 p)))

-- ---- to a row

cons_fits : (w : ℕ) (ws : List ℕ) → Word w → words_fit ws ≡ true → words_fit (w ∷ ws) ≡ true
unfolding words_fit
cons_fits w ws h e = rw (lt-ltb w (2 ^ 48) h) e

none_fits : words_fit [] ≡ true
unfolding words_fit
none_fits = refl

held : (full : Bool) (x : ℕ) → Holds full x → Word x
held true x h = h
held false x h = omega arith

mark_word : (on : Bool) → Word (one_of on)
mark_word true = omega arith
mark_word false = omega arith

small : {x n : ℕ} → x < n → n < 2 ^ 48 → Word x
small h k = omega arith

pub row_words : (g : Registers) → RangedSet g → words_fit (row_of g) ≡ true
unfolding row_of
row_words g h =
    cons_fits _ _ (held g.afull g.a h.a)
    (cons_fits _ _ (mark_word g.afull)
    (cons_fits _ _ (held g.bfull g.b h.b)
    (cons_fits _ _ (mark_word g.bfull)
    (cons_fits _ _ (small h.s (omega arith))
    (cons_fits _ _ (small h.f (omega arith))
    (cons_fits _ _ (small h.c (omega arith))
    (cons_fits _ _ (small h.r (omega arith))
    (cons_fits _ _ (small h.l (omega arith))
    (cons_fits _ _ (mark_word g.salf)
    (cons_fits _ _ (mark_word g.msff) none_fits))))))))))

pub row_length : (g : Registers) → length (row_of g) ≡ 11
unfolding row_of
row_length g = refl
