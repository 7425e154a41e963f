-- Twelve bits from 12 times the smaller of L and 3 on are the syllable: from L=3 on, the word's last twelve.
-- Assumes nothing.
use mathlib.Core.Path.{◌≡◌, ◌∙◌, sym, ap₂}
use Prim.Native.Nat.{ℕ, ◌+◌, ◌*◌, ◌-◌, ◌/◌, ◌%◌, ◌^◌, min}
use native.Mathlib.Omega.{arith}
use Rattle.word.proofs.Changes.{bits_yes}
use Rattle.word.specs.Field.{bits_of}
use Rattle.syllable.specs.Positions.{syllable_of}

pub twelve : (w l : ℕ) → bits_of w (12 * min l 3) (12 * min l 3 + 11) ≡ syllable_of w l
unfolding syllable_of
twelve w l =
    let up : 47 - (12 * min l 3 + 11) ≡ 47 - (12 * l + 11) = omega arith in
    let size : 12 * min l 3 + 11 + 1 - 12 * min l 3 ≡ 12 * l + 11 + 1 - 12 * l = omega arith in
    sym (bits_yes w (12 * min l 3) (12 * min l 3 + 11) (omega arith) (omega arith)) ∙ ap₂ (λ (a b : ℕ). w / 2 ^ a % 2 ^ b) up size
