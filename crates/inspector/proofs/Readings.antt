-- How the code reads a syllable.
use Prim.Native.Nat.{ℕ, ◌+◌, ◌-◌, ◌*◌, ◌/◌, ◌%◌, ◌^◌, ◌<◌}
use mathlib.Core.Path.{◌≡◌, ◌∙◌, ap}
use mathlib.Core.List.{List}
use native.Mathlib.Nat.{mod-lt}
use native.Mathlib.Omega.{arith}
use lib.ListN.{get_or}
use Rattle.sheet.specs.Sheets.{code_of}
use Rattle.inspector.specs.Scan.{syllable_at}
use Rattle.syllable.specs.declared.Syllable.{Syllable}
use Rattle.syllable.specs.Decoding.{decode_of}
use Rattle.syllable.specs.Positions.{syllable_of}

syllable_small : (w l : ℕ) → syllable_of w l < 4096
unfolding syllable_of
syllable_small w l =
    let size : 12 * l + 11 + 1 - 12 * l ≡ 12 = omega arith in
    rw size (mod-lt (w / 2 ^ (47 - (12 * l + 11))) (omega arith))

pub read_at : (core sheet : List ℕ) (i start w y : ℕ) {r : Syllable} → start ≡ code_of sheet → w ≡ get_or core (start + i / 4) 0 → y ≡ syllable_of w (i % 4) →
    r ≡ decode_of (y % 4096) → r ≡ syllable_at core sheet i
read_at core sheet i start w y a b e f =
    let s : y % 4096 ≡ syllable_of w (i % 4) = omega (arith, syllable_small w (i % 4)) in
    f ∙ ap decode_of s ∙ ap (λ (x : ℕ). decode_of (syllable_of x (i % 4))) b ∙ ap (λ (c : ℕ). decode_of (syllable_of (get_or core (c + i / 4) 0) (i % 4))) a
