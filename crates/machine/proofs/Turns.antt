-- Laws of bits, as the code takes them.
use mathlib.Core.Path.{◌≡◌, sym, ap}
use Prim.Native.Nat.{ℕ, ◌/◌, ◌%◌, ◌^◌, ◌<◌, ◌≤◌}
use native.Mathlib.Nat.{div-one}
use native.Mathlib.Omega.{arith}
use lib.Bits.{bit_xor, xor_lt}
use lib.Dec.{eqb}
use Rattle.word.specs.Field.{bit}

-- Two bodies joined bit by bit are a body.
pub xor_room : (x y : ℕ) → x < 2 ^ 47 → y < 2 ^ 47 → bit_xor x y ≤ 140737488355327
xor_room x y h k = omega (arith, xor_lt 47 x y h k)

-- A word's low bits: its last bit is worth 1.
pub low_bits : (w k : ℕ) → w % k ≡ w / 1 % k
low_bits w k = ap (λ (n : ℕ). n % k) (sym (div-one w))

pub last_bit : (w : ℕ) → bit w 47 ≡ eqb (w % 2) 1
last_bit w = ap (λ (n : ℕ). eqb n 1) (sym (low_bits w 2))
