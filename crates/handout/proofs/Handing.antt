-- The ways out of a hand-out: the number, and where the words stand.
use Prim.Native.Nat.{ℕ, ◌<◌, ◌≤◌}
use mathlib.Core.Path.{◌≡◌, sym, ◌∙◌, ap}
use mathlib.Core.Bool.{true, false}
use mathlib.Core.List.{List}
use mathlib.Core.Logic.{◌⊎◌, inl, inr}
use native.Mathlib.Omega.{arith}
use lib.ListN.{length, get_or}
use Rattle.std.specs.Result.{result_unwrap_or}
use Rattle.std.specs.declared.result.Result.{Result}
use Rattle.std.specs.declared.result.Result.TheVariants.{Ok, Err}
use Rattle.word.specs.Addresses.{cell_address}
use Rattle.word.specs.Core.{checked_of}
use Rattle.word.proofs.Checks.{both_fit, number_refused}
use Rattle.word.specs.Layout.{size_of, address_of, array_in}
use Rattle.word.specs.declared.cores.CoreError.{CoreError}
use Rattle.word.specs.declared.cores.CoreError.TheVariants.{Length, Word}
use Rattle.handout.specs.declared.Stretch.{Stretch}
use Rattle.handout.specs.declared.HandOutError.{HandOutError}
use Rattle.handout.specs.declared.HandOutError.TheVariants.{Core, Cell, Array}
use Rattle.handout.specs.HandOut.{Handed, hand_out_number, stretch_start, stretch_count, hand_out_error_number, handed_by, handed_of}
use Rattle.handout.proofs.Numbers.{number_r, number_cell, number_out, number_unfit, number_fits, start_given, count_given, start_none, count_none}

module _ (core : List ℕ) (r cell : ℕ) where
  none : (why : HandOutError) → hand_out_error_number why ≡ hand_out_number core r cell → handed_by (Err why) ≡ handed_of core r cell
  none why e = rw (e, ← start_none core r cell (λ z. above why (e ∙ z)), ← count_none core r cell (λ z. above why (e ∙ z)))
    where
      above : (w : HandOutError) → hand_out_error_number w ≡ 0 → ⊥
      above (Core Length) z = absurd (omega arith)
      above (Core Word) z = absurd (omega arith)
      above Cell z = absurd (omega arith)
      above Array z = absurd (omega arith)

  pub handed_core : {why : CoreError} {x : Result Stretch HandOutError} → Err why ≡ checked_of core → x ≡ Err (Core why) → handed_by x ≡ handed_of core r cell
  unfolding hand_out_number
  handed_core {why} e f = rw f (none (Core why) (number_refused core _ e))

  pub handed_cell : {u : Unit {0}} → Ok u ≡ checked_of core → (512 ≤ r) ⊎ ((r < 512) × (1024 ≤ cell)) → handed_by (Err Cell) ≡ handed_of core r cell
  handed_cell e h = none Cell (elim h [ inl k ↦ number_r core r cell (both_fit core e).0 (both_fit core e).1 k | inr k ↦ number_cell core r cell (both_fit core e).0 (both_fit core e).1 k.0 k.1 ])

  pub handed_out : {u : Unit {0}} {x : Result Stretch HandOutError} → Ok u ≡ checked_of core → r < 512 → cell < 1024 → length core ≤ cell_address r cell → x ≡ Err Array → handed_by x ≡ handed_of core r cell
  handed_out e h k o f = rw f (none Array (number_out core r cell (both_fit core e).0 (both_fit core e).1 h k o))

  pub handed_unfit : {u : Unit {0}} {w : ℕ} → Ok u ≡ checked_of core → false ≡ array_in (length core) w → r < 512 → cell < 1024 → cell_address r cell < length core
      → w ≡ get_or core (cell_address r cell) 0 → handed_by (Err Array) ≡ handed_of core r cell
  handed_unfit e a h k o f = none Array (number_unfit core r cell (both_fit core e).0 (both_fit core e).1 h k o (rw (← f) (sym a)))

  pub handed_fits : {u : Unit {0}} {w : ℕ} (s : Stretch) → Ok u ≡ checked_of core → true ≡ array_in (length core) w → r < 512 → cell < 1024 → cell_address r cell < length core
      → w ≡ get_or core (cell_address r cell) 0 → s.start ≡ address_of w → s.count ≡ size_of w → handed_by (Ok s) ≡ handed_of core r cell
  handed_fits {u} {w} s e a h k o f x y =
      let z : 0 ≡ hand_out_number core r cell = number_fits core r cell (both_fit core e).0 (both_fit core e).1 h k o (rw (← f) (sym a)) in
      rw (x, y, f, ← start_given core r cell (sym z), ← count_given core r cell (sym z), ← z)

  -- Where the words stand, or the empty stretch.
  pub stands : (x : Result Stretch HandOutError) {s : Stretch} → handed_by x ≡ handed_of core r cell → s ≡ result_unwrap_or x (record { start = 0; count = 0 })
      → (s.start ≡ stretch_start core r cell) × (s.count ≡ stretch_count core r cell)
  stands (Ok s) e f = (ap (λ (t : Stretch). t.start) f ∙ ap (λ (h : Handed). h.start) e, ap (λ (t : Stretch). t.count) f ∙ ap (λ (h : Handed). h.count) e)
  stands (Err n) e f = (ap (λ (t : Stretch). t.start) f ∙ ap (λ (h : Handed). h.start) e, ap (λ (t : Stretch). t.count) f ∙ ap (λ (h : Handed). h.count) e)
