-- The advance: 32767 with L=3 goes to 0, 0, and a place of the core goes to a place of the core.
-- Assumes nothing.
use mathlib.Core.Path.{◌≡◌, refl}
use Prim.Native.Nat.{ℕ, ◌+◌, ◌*◌, ◌<◌}
use native.Mathlib.Omega.{arith}
use Rattle.syllable.specs.Positions.{next_of, advance_of}

pub advance_last : advance_of 32767 3 ≡ record { c = 0; l = 0 }
advance_last = refl

pub advance_within : (c l : ℕ) → ((advance_of c l).c < 32768) × ((advance_of c l).l < 4)
advance_within c l = (omega arith, omega arith)

pub advance_next : (c l : ℕ) → 4 * (advance_of c l).c + (advance_of c l).l ≡ next_of (4 * c + l)
advance_next c l = omega arith
