-- The checks 1, 2 and 3 pass exactly when the state is fit.
use Prim.Native.Nat.{ℕ, zero, suc, ◌^◌, ◌<◌, ◌≤◌}
use mathlib.Core.Path.{◌≡◌, refl}
use mathlib.Core.Logic.Iff
use mathlib.Core.Logic.{◌↔◌}
use mathlib.Core.Bool.{Bool, true, false, ◌&&◌, false≢true}
use mathlib.Core.List.{List, [], ◌∷◌}
use native.Mathlib.Omega.{arith}
use borrow.Author.Tests.{ltb-true, leb-true, eqb-true, lt-ltb, le-leb, eq-eqb}
use lib.Dec.{ltb}
use lib.ListN.{length}
use Rattle.machine.specs.declared.outcome.Registers.{Registers}
use Rattle.word.specs.Choices.{if◌then◌otherwise◌}
use Rattle.machine.specs.States.{state_of}
use Rattle.machine.specs.Steps.{holds_word, registers_fit, refusal_of}
use Rattle.word.specs.Core.{length_fits, words_fit}
use Rattle.laws.specs.Fit.{Word, Words, Holds, InRange, Fit}

-- A test that is on exactly when a fact holds.
abbrev Tells : Bool → Type 0 → Type 0
Tells b P = (b ≡ true) ↔ P

tells_and : {a b : Bool} {P Q : Type 0} → Tells a P → Tells b Q → Tells (a && b) (P × Q)
tells_and {a = true} p q = (λ e. (p.0 refl, q.0 e), λ t. q.1 t.1)
tells_and {a = false} p q = (λ e. absurd (false≢true e), λ t. p.1 t.0)

tells_lt : (m n : ℕ) → Tells (ltb m n) (m < n)
tells_lt m n = (ltb-true m n, lt-ltb m n)

tells_holds : (full : Bool) (x : ℕ) → Tells (holds_word full x) (Holds full x)
unfolding if◌then◌otherwise◌
tells_holds true x = tells_lt x (2 ^ 48)
tells_holds false x = (eqb-true x 0, eq-eqb x 0)

tells_length : (core : List ℕ) → Tells (length_fits core) ((0 < length core) × (length core ≤ 32768))
unfolding length_fits
tells_length core = tells_and (tells_lt 0 (length core)) (leb-true (length core) 32768, le-leb (length core) 32768)

words_cons : (w : ℕ) (ws : List ℕ) → (Word w × Words ws) ↔ Words (w ∷ ws)
words_cons w ws = (there, λ h. (h 0, λ i. h (suc i)))
  where
    there : Word w × Words ws → Words (w ∷ ws)
    there t zero = t.0
    there t (suc i) = t.1 i

tells_words : (core : List ℕ) → Tells (words_fit core) (Words core)
unfolding words_fit
tells_words [] = (λ _ i. omega arith, λ _. refl)
tells_words (w ∷ ws) = Iff.trans (tells_and (tells_lt w (2 ^ 48)) (tells_words ws)) (words_cons w ws)

tells_registers : (g : Registers) → Tells (registers_fit g) (InRange g)
unfolding registers_fit
tells_registers g =
    Iff.trans
    (tells_and (tells_and (tells_and (tells_and (tells_and (tells_and (tells_holds g.afull g.a) (tells_holds g.bfull g.b)) (tells_lt g.s 32768)) (tells_lt g.f 32768)) (tells_lt g.c 32768)) (tells_lt g.r 512)) (tells_lt g.l 4)) (
      λ t. record { a = t.0.0.0.0.0.0; b = t.0.0.0.0.0.1; s = t.0.0.0.0.1; f = t.0.0.0.1; c = t.0.0.1; r = t.0.1; l = t.1 },
      λ h. ((((((h.a, h.b), h.s), h.f), h.c), h.r), h.l),
    )

-- A check before others.
checked : {b : Bool} {P Q : Type 0} (x n : ℕ) → Tells b P → (x ≡ 0) ↔ Q → ((if b then x otherwise suc n) ≡ 0) ↔ (P × Q)
unfolding if◌then◌otherwise◌
checked {b = true} x n p q = (λ e. (p.0 refl, q.0 e), λ t. q.1 t.1)
checked {b = false} x n p q = (λ e. absurd (omega arith), λ t. absurd (false≢true (p.1 t.0)))

pub fit_refusal : (core : List ℕ) (g : Registers) → (refusal_of core g ≡ 0) ↔ Fit (state_of core g)
unfolding refusal_of
fit_refusal core g =
    Iff.trans (checked _ 0 (tells_length core) (checked _ 1 (tells_words core) (checked 0 2 (tells_registers g) (λ _. tt {0}, λ _. refl)))) (
      λ t. record { some = t.0.0; most = t.0.1; words = t.1.0; regs = t.1.1.0 },
      λ f. ((f.some, f.most), (f.words, (f.regs, tt))),
    )
