-- A search for the lowest place that found nothing passed every place.
use Prim.Native.Nat.{ℕ, zero, suc, ◌+◌, ◌≤◌, ◌<◌}
use mathlib.Core.Path.{◌≡◌, refl, ◌∙◌, ap}
use mathlib.Core.Bool.{Bool, true, false}
use native.Mathlib.Omega.{arith}
use borrow.Author.Tests.{eqb-true, eqb-false}
use lib.Dec.{eqb}
use Rattle.inspector.specs.Verdicts.{at, nowhere, lowest}

at_not_nowhere : {A : Type 0} {p : ℕ} → at p ≡ nowhere → A
at_not_nowhere e = absurd (clash e)
  where
    clash : {p : ℕ} → at p ≡ nowhere → ⊥
    clash e = let z : ◌≡◌ {A = ℕ} 0 1 = cc in omega arith

-- A search that found nothing passed every place.
pub none_found : (p : ℕ → Bool) (n i : ℕ) → lowest p n i ≡ nowhere → (j : ℕ) → i ≤ j → j < i + n → p j ≡ false
none_found p zero i e j h l = absurd (none h l)
  where
    none : i ≤ j → j < i + 0 → ⊥
    none h l = omega arith
none_found p (suc n) i e j h l = by (p i) (eqb j i) refl refl e (λ f k. none_found p n (suc i) f j k (omega arith))
  where
    by : (b c : Bool) → p i ≡ b → eqb j i ≡ c → elim b [ true ↦ at i | false ↦ lowest p n (suc i) ] ≡ nowhere → (lowest p n (suc i) ≡ nowhere → suc i ≤ j → p j ≡ false) → p j ≡ false
    by true c f g e k = at_not_nowhere e
    by false true f g e k = ap p (eqb-true j i g) ∙ f
    by false false f g e k = k e (omega (arith, eqb-false j i g))
