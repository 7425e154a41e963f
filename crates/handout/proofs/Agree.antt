-- The two calls agree: the number is 0 exactly where the stretch is not empty, and a stretch has as many words as the size says.
use Prim.Native.Nat.{ℕ, ◌+◌, ◌-◌, ◌<◌, ◌≤◌}
use mathlib.Core.Path.{◌≡◌, refl, sym, ◌∙◌, ap, subst}
use mathlib.Core.Bool.{Bool, true, false}
use mathlib.Core.List.{List}
use native.Mathlib.Omega.{arith}
use borrow.Author.Tests.{eqb-true, eqb-false}
use lib.Dec.{eqb}
use lib.ListN.{length, drop, length-drop}
use denote.Ref.{Bor}
use lib.Seq.{length-take-le}
use Rattle.handout.specs.HandOut.{hand_out_number, stretch_start, stretch_count, stretch_of, HandedOut}
use Rattle.handout.proofs.Numbers.{number_named, count_given, count_none, within}

module _ (core : List ℕ) (r cell : ℕ) where
  pub stretch_length : length (stretch_of core r cell) ≡ stretch_count core r cell
  unfolding stretch_of
  stretch_length = length-take-le (stretch_count core r cell) (drop (stretch_start core r cell) core)
      (subst (λ (n : ℕ). stretch_count core r cell ≤ n) (sym (length-drop (stretch_start core r cell) core)) (left _ _ _ (within core r cell)))
    where
      left : (s n l : ℕ) → s + n ≤ l → n ≤ l - s
      left s n l h = omega arith

  pub given : hand_out_number core r cell ≡ 0 → 0 < length (stretch_of core r cell)
  given e = subst (λ (n : ℕ). 0 < n) (count_given core r cell e ∙ sym stretch_length) (number_named core r cell e).some

  pub refused : (hand_out_number core r cell ≡ 0 → ⊥) → length (stretch_of core r cell) ≡ 0
  refused n = stretch_length ∙ sym (count_none core r cell n)

  -- For all arguments: 0 exactly where there are words.
  pub agree : (hand_out_number core r cell ≡ 0 → 0 < length (stretch_of core r cell)) × (0 < length (stretch_of core r cell) → hand_out_number core r cell ≡ 0)
  agree = (given, back _ refl)
    where
      back : (b : Bool) → eqb (hand_out_number core r cell) 0 ≡ b → 0 < length (stretch_of core r cell) → hand_out_number core r cell ≡ 0
      back true e h = eqb-true (hand_out_number core r cell) 0 e
      back false e h = absurd (none _ h (refused (eqb-false (hand_out_number core r cell) 0 e)))
        where
          none : (n : ℕ) → 0 < n → n ≡ 0 → ⊥
          none n h z = omega arith

-- The same of what the calls answer, and that a hand-out permits one answer: those words, in that place.
pub calls_agree : {core part : Bor (List ℕ)} {n r cell : ℕ} → n ≡ hand_out_number core.now r cell → HandedOut core part r cell
    → (n ≡ 0 → 0 < length part.now) × (0 < length part.now → n ≡ 0)
calls_agree {core} {part} {n} {r} {cell} e h =
    let l : length part.now ≡ length (stretch_of core.now r cell) = ap length h.words in (
      λ z. subst (λ (k : ℕ). 0 < k) (sym l) ((agree core.now r cell).0 (sym e ∙ z)),
      λ p. e ∙ (agree core.now r cell).1 (subst (λ (k : ℕ). 0 < k) l p),
    )

pub sole_part : {core part part' : Bor (List ℕ)} {r cell : ℕ} → HandedOut core part r cell → HandedOut core part' r cell → (part.now ≡ part'.now) × (part.ref_ptr ≡ part'.ref_ptr)
sole_part h h' = (h.words ∙ sym h'.words, h.place ∙ sym h'.place)
