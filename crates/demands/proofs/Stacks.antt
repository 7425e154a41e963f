-- The stack in core and the two registers, over a shape.
use Prim.Native.Nat.{ℕ, ◌+◌, ◌-◌, ◌≤◌, ◌<◌}
use mathlib.Core.Path.{◌≡◌, refl, sym, subst}
use mathlib.Core.Bool.{Bool, true, false, true≢false, false≢true}
use mathlib.Core.List.{List, [], ◌∷◌}
use native.Mathlib.Omega.{arith}
use lib.ListN.{length, set}
use lib.Seq.{get_or-set_other}
use Rattle.sheet.specs.Sheets.{s_of}
use Rattle.inspector.specs.Scan.{Item, Shape}
use Rattle.demands.proofs.Holds.{Fits, Under, Register, full, empty, Rest}

module _ (core sheet : List ℕ) where
  -- S counts the items in core.
  pub under_height : (l : List ℕ) (s : ℕ) (xs : Shape) → Under core sheet l s xs → s ≡ s_of sheet + length xs
  under_height l s [] e = omega arith
  under_height l s (x ∷ xs) u = omega (arith, u.0, under_height l (s - 1) xs u.2)

  -- A word written elsewhere.
  pub under_set : (l : List ℕ) (m w s : ℕ) (xs : Shape) → ((j : ℕ) → s_of sheet < j → j ≤ s → j ≡ m → ⊥) → Under core sheet l s xs → Under core sheet (set l m w) s xs
  under_set l m w s [] f e = e
  under_set l m w s (x ∷ xs) f u = (
    u.0,
    subst (λ (n : ℕ). Fits core sheet x n) (sym (get_or-set_other l m s w 0 (f s u.0 (omega arith)))) u.1,
    under_set l m w (s - 1) xs (λ j p q. f j p (omega arith)) u.2,
  )

  pub register_off : {b : Bool} {w : ℕ} {xs ys : Shape} → Register core sheet b w xs ys → b ≡ false → ys ≡ xs
  register_off (full f) e = absurd (true≢false e)
  register_off empty e = refl

  pub register_on : {b : Bool} {w : ℕ} {xs ys : Shape} → Register core sheet b w xs ys → b ≡ true → (x : Item) × (x ∷ ys ≡ xs) × Fits core sheet x w
  register_on (full f) e = (_, refl, f)
  register_on empty e = absurd (false≢true e)

  pub register_front : {b : Bool} {w : ℕ} {x : Item} {xs ys : Shape} → Register core sheet b w (x ∷ xs) ys → b ≡ true → Fits core sheet x w × (ys ≡ xs)
  register_front (full f) e = (f, refl)
  register_front empty e = absurd (false≢true e)

  pub rest_off : {l : List ℕ} {bfull : Bool} {b s : ℕ} {xs : Shape} → Rest core sheet l bfull b s xs → bfull ≡ false → Under core sheet l s xs
  rest_off {l} {s = s} r e = subst (λ (ys : Shape). Under core sheet l s ys) (register_off r.top e) r.under

  pub rest_front : {l : List ℕ} {bfull : Bool} {b s : ℕ} {x : Item} {xs : Shape} → Rest core sheet l bfull b s (x ∷ xs) → bfull ≡ true → Fits core sheet x b × Under core sheet l s xs
  rest_front {l} {s = s} r e =
      let t = register_front r.top e in
      (t.0, subst (λ (ys : Shape). Under core sheet l s ys) t.1 r.under)

  -- B full or empty over a shape in core.
  pub rest_full : {l : List ℕ} {b s : ℕ} {x : Item} {xs : Shape} → Fits core sheet x b → Under core sheet l s xs → Rest core sheet l true b s (x ∷ xs)
  rest_full f u = record { low = _; top = full f; under = u }

  pub rest_empty : {l : List ℕ} {b s : ℕ} {xs : Shape} → Under core sheet l s xs → Rest core sheet l false b s xs
  rest_empty u = record { low = _; top = empty; under = u }

  pub rest_none : {l : List ℕ} {bfull : Bool} {b s : ℕ} {xs : Shape} → bfull ≡ false → Under core sheet l s xs → Rest core sheet l bfull b s xs
  rest_none {l} {b = b} {s} {xs} e u = subst (λ (q : Bool). Rest core sheet l q b s xs) (sym e) (rest_empty u)

  pub rest_some : {l : List ℕ} {bfull : Bool} {b s : ℕ} {x : Item} {xs : Shape} → bfull ≡ true → Fits core sheet x b → Under core sheet l s xs → Rest core sheet l bfull b s (x ∷ xs)
  rest_some {l} {b = b} {s} {x} {xs} e f u = subst (λ (q : Bool). Rest core sheet l q b s (x ∷ xs)) (sym e) (rest_full f u)

  pub register_some : {b : Bool} {w : ℕ} {x : Item} {xs : Shape} → b ≡ true → Fits core sheet x w → Register core sheet b w (x ∷ xs) xs
  register_some {w = w} {x} {xs} e f = subst (λ (q : Bool). Register core sheet q w (x ∷ xs) xs) (sym e) (full f)

  pub register_none : {b : Bool} {w : ℕ} {xs : Shape} → b ≡ false → Register core sheet b w xs xs
  register_none {w = w} {xs} e = subst (λ (q : Bool). Register core sheet q w xs xs) (sym e) empty
