-- What `find` gives of the lowest place at which a rule is broken.
use Prim.Native.Nat.{ℕ, zero, suc, ◌+◌, ◌≤◌, ◌<◌, zero-le}
use mathlib.Core.Path.{◌≡◌, refl, sym, ◌∙◌, ap, subst}
use mathlib.Core.Bool.{Bool, true, false}
use native.Mathlib.Omega.{arith}
use borrow.Author.Tests.{eqb-true, eqb-false}
use lib.Dec.{eqb}
use Rattle.std.proofs.iter.Yields.{nat_range_steps}
use Rattle.std.proofs.lemmas.Iterator.{first_from_Range}
use Rattle.std.specs.Bool.{⊤}
use Rattle.std.specs.Fn.{CalledAt}
use Rattle.std.specs.Iterator.{YieldsThen}
use Rattle.std.specs.List.{FoldsTo}
use Rattle.std.specs.Option.{MatchOption}
use Rattle.std.specs.declared.ops.Range.{Range}
use denote.Param.Members.{Mut}
use denote.Ref.{Bor}
use mathlib.Core.List.{List}
use Rattle.std.specs.declared.option.Option.{Option}
use Rattle.std.specs.declared.option.Option.TheVariants.{Some, None}
use Rattle.inspector.specs.Verdicts.{at, nowhere, lowest}
use Rattle.inspector.specs.ForCode.Forms.{found_of}

-- The place i, by whether it is broken.
first_of : (p : ℕ → Bool) (n i : ℕ) (b : Bool) → p i ≡ b → elim b [ true ↦ at i | false ↦ lowest p n (suc i) ] ≡ lowest p (suc n) i
first_of p n i b e = ap (λ (b : Bool). elim b [ true ↦ at i | false ↦ lowest p n (suc i) ]) (sym e)

-- No place of n from i on is broken.
passed_from : (p : ℕ → Bool) (n i : ℕ) → ((k : ℕ) → i ≤ k → k < i + n → p k ≡ false) → nowhere ≡ lowest p n i
passed_from p zero i f = refl
passed_from p (suc n) i f = passed_from p n (suc i) (λ k a b. f k (omega arith) (omega arith)) ∙ first_of p n i false (f i (omega arith) (omega arith))

-- Place j is broken, and none from i to it.
broken_from : (p : ℕ → Bool) (n i j : ℕ) → i ≤ j → j < i + n → p j ≡ true → ((k : ℕ) → i ≤ k → k < j → p k ≡ false) → at j ≡ lowest p n i
broken_from p zero i j a b e f = absurd (none a b)
  where
    none : i ≤ j → j < i + 0 → ⊥
    none a b = omega arith
broken_from p (suc n) i j a b e f = by (eqb i j) refl (λ s. broken_from p n (suc i) j s (omega arith) e (λ k c d. f k (omega arith) d))
  where
    by : (t : Bool) → eqb i j ≡ t → (suc i ≤ j → at j ≡ lowest p n (suc i)) → at j ≡ lowest p (suc n) i
    by true t g =
        let s : i ≡ j = eqb-true i j t in
        ap at (sym s) ∙ first_of p n i true (ap p s ∙ e)
    by false t g =
        let s : i < j = omega (arith, eqb-false i j t) in
        g s ∙ first_of p n i false (f i (omega arith) s)

module _ (p : ℕ → Bool) (n : ℕ) where
  pub lowest_none : ((k : ℕ) → k < n → p k ≡ false) → nowhere ≡ lowest p n 0
  lowest_none f = passed_from p n 0 (λ k a b. f k (omega arith))

  pub lowest_at : (j : ℕ) → j < n → p j ≡ true → ((k : ℕ) → k < j → p k ≡ false) → at j ≡ lowest p n 0
  lowest_at j b e f = broken_from p n 0 j zero-le (omega arith) e (λ k c d. f k d)

  -- What `find` gives over the m places from 0 on.
  found : (m : ℕ) (r : Option ℕ) → m ≡ n → MatchOption r ((k : ℕ) → 0 ≤ k → k < m → p k ≡ false) (λ i. (0 ≤ i) × (i < m) × (p i ≡ true) × ((k : ℕ) → 0 ≤ k → k < i → p k ≡ false)) →
      found_of r ≡ lowest p n 0
  found m None e f = lowest_none (λ k b. f k zero-le (omega arith))
  found m (Some j) e f = lowest_at j (omega (arith, f.1)) f.2 (λ k b. f.3 k zero-le b)

-- The same, of a closure that tells the broken places.
pub found_in : {F : Type 0} {g : Mut F (Bor ℕ × Unit {0}) Bool} (p : ℕ → Bool) (n : ℕ) (s u : Range ℕ) (f : F) (r : Option ℕ) → s.start ≡ 0 → s.end ≡ n →
    (xs : List ℕ) × (j : F) × YieldsThen nat_range_steps s xs r u × FoldsTo (λ p x q. CalledAt g p x false q) f xs j × MatchOption r ⊤ (λ x. (h : F) × CalledAt g j x true h) →
    ((x : ℕ) (q : F) → CalledAt g f x true q → p x ≡ true) → ((x : ℕ) (q : F) → CalledAt g f x false q → (q ≡ f) × (p x ≡ false)) → found_of r ≡ lowest p n 0
found_in p n s u f r a b ran breaks passes =
    found p n s.end r b (subst (λ (z : ℕ). MatchOption r ((k : ℕ) → z ≤ k → k < s.end → p k ≡ false) (λ i. (z ≤ i) × (i < s.end) × (p i ≡ true) × ((k : ℕ) → z ≤ k → k < i → p k ≡ false))) a
    (first_from_Range s u f r (λ k. p k ≡ true) (λ k. p k ≡ false) ran breaks passes))
