-- What joined tests say: a test that is on shows a fact, one that is off denies another.
use Prim.Native.Nat.{ℕ, ◌≤◌, ◌<◌}
use mathlib.Core.Path.{◌≡◌, refl}
use mathlib.Core.Bool.{Bool, true, false, not, ◌&&◌, ◌||◌, false≢true, true≢false}
use borrow.Author.Tests.{ltb-true, ltb-false, leb-true, eqb-true, not-true, not-false}
use lib.Dec.{eqb, ltb, leb}

abbrev pub Shows : Bool → Type 0 → Type 0
Shows b P = b ≡ true → P

abbrev pub Denies : Bool → Type 0 → Type 0
Denies b P = b ≡ false → P

pub shows_and : {a b : Bool} {P Q : Type 0} → Shows a P → Shows b Q → Shows (a && b) (P × Q)
shows_and {a = true} p q e = (p refl, q e)
shows_and {a = false} p q e = absurd (false≢true e)

pub denies_or : {a b : Bool} {P Q : Type 0} → Denies a P → Denies b Q → Denies (a || b) (P × Q)
denies_or {a = true} p q e = absurd (true≢false e)
denies_or {a = false} p q e = (p refl, q e)

-- The first test on and both not: the second is off.
pub denies_and : {a b : Bool} {Q : Type 0} → a ≡ true → Denies b Q → Denies (a && b) Q
denies_and {a = true} h q e = q e
denies_and {a = false} h q e = absurd (false≢true h)

pub shows_lt : (m n : ℕ) → Shows (ltb m n) (m < n)
shows_lt m n = ltb-true m n

pub shows_le : (m n : ℕ) → Shows (leb m n) (m ≤ n)
shows_le m n = leb-true m n

pub shows_eq : (m n : ℕ) → Shows (eqb m n) (m ≡ n)
shows_eq m n = eqb-true m n

pub shows : (b : Bool) → Shows b (b ≡ true)
shows b e = e

pub shows_not : (b : Bool) → Shows (not b) (b ≡ false)
shows_not b = not-true b

pub denies_lt : (m n : ℕ) → Denies (ltb m n) (n ≤ m)
denies_lt m n = ltb-false m n

pub denies : (b : Bool) → Denies b (b ≡ false)
denies b e = e

pub denies_not : (b : Bool) → Denies (not b) (b ≡ true)
denies_not b = not-false b
