-- The part of a core from a hand-out's start for its count.
use Prim.Native.Nat.{ℕ, ◌+◌, ◌-◌, ◌*◌, ◌≤◌}
use mathlib.Core.Path.{◌≡◌, ◌∙◌, ap}
use mathlib.Core.List.{List}
use native.Mathlib.Omega.{arith}
use lib.ListN.{length, take, drop}
use Rattle.handout.specs.HandOut.{stretch_start, stretch_count, stretch_of}
use Rattle.handout.proofs.Numbers.{within}

module _ (core : List ℕ) (r cell : ℕ) {s n : ℕ} (e : (s ≡ stretch_start core r cell) × (n ≡ stretch_count core r cell)) where
  pub part_in : s + n ≤ length core
  part_in =
      let h : stretch_start core r cell + stretch_count core r cell ≤ length core = within core r cell in
      let x : s ≡ stretch_start core r cell = e.0 in
      let y : n ≡ stretch_count core r cell = e.1 in
      omega arith

  pub part_words : take (s + n - s) (drop s core) ≡ stretch_of core r cell
  unfolding stretch_of
  part_words = ap (λ (k : ℕ). take k (drop s core)) (back s n) ∙ rw (e.0, e.1)
    where
      back : (s n : ℕ) → s + n - s ≡ n
      back s n = omega arith

  pub part_place : (b o : ℕ) → ◌≡◌ {A = ℕ × ℕ} (b, s * 8 + o) (b, stretch_start core r cell * 8 + o)
  part_place b o = ap (λ (k : ℕ). (b, k * 8 + o)) e.0
