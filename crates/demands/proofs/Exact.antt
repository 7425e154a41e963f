-- The answer is exact: 0 if and only if no printed rule is broken; n at p if and only if that rule is broken at p, at no lower
-- place, and no earlier rule is broken anywhere.
use Prim.Native.Nat.{ℕ, zero, suc, ◌+◌, ◌≤◌, ◌<◌}
use mathlib.Core.Path.{◌≡◌, refl, sym, ◌∙◌, ap, subst}
use mathlib.Core.Bool.{Bool, true, false}
use mathlib.Core.List.{List, [], ◌∷◌}
use native.Mathlib.Omega.{arith}
use borrow.Author.Tests.{eqb-true, eqb-false}
use lib.Dec.{eqb}
use Rattle.inspector.specs.Verdicts.{Verdict}
use Rattle.inspector.specs.Verdicts.{Found, at, nowhere, lowest, given, blamed, answer_of, verdict_of, Rule, rules}
use Rattle.inspector.proofs.Searches.{none_found}
use Rattle.demands.specs.Rules.{Kept, BrokenAt, AllKept, none, kept, Blames, this, later}

-- What a search finds.
at_at : {p q : ℕ} → at p ≡ at q → p ≡ q
at_at e = cc

clash : {A : Type 0} {p : ℕ} → nowhere ≡ at p → A
clash e = absurd (no e)
  where
    no : {p : ℕ} → nowhere ≡ at p → ⊥
    no e = let z : ◌≡◌ {A = ℕ} 0 1 = cc in omega arith

record Lowest (p : ℕ → Bool) (n i q : ℕ) : Type 0 where
  from : i ≤ q
  below : q < i + n
  here : p q ≡ true
  before : (j : ℕ) → i ≤ j → j < q → p j ≡ false

found_at : (p : ℕ → Bool) (n i q : ℕ) → lowest p n i ≡ at q → Lowest p n i q
found_at p zero i q e = clash e
found_at p (suc n) i q e = by (p i) refl e (found_at p n (suc i) q)
  where
    by : (b : Bool) → p i ≡ b → elim b [ true ↦ at i | false ↦ lowest p n (suc i) ] ≡ at q → (lowest p n (suc i) ≡ at q → Lowest p n (suc i) q) → Lowest p (suc n) i q
    by true f e k =
        let s : i ≡ q = at_at e in
        record { from = omega arith; below = omega arith; here = ap p (sym s) ∙ f; before = λ j h l. absurd (none j h l s) }
      where
        none : (j : ℕ) → i ≤ j → j < q → i ≡ q → ⊥
        none j h l s = omega arith
    by false f e k =
        let r : Lowest p n (suc i) q = k e in
        record { from = omega arith; below = omega arith; here = r.here; before = λ j h l. pick r j h l (eqb j i) refl }
      where
        pick : Lowest p n (suc i) q → (j : ℕ) → i ≤ j → j < q → (c : Bool) → eqb j i ≡ c → p j ≡ false
        pick r j h l true g = ap p (eqb-true j i g) ∙ f
        pick r j h l false g = r.before j (omega (arith, eqb-false j i g)) l

kept_found : (p : ℕ → Bool) (n i : ℕ) → ((j : ℕ) → i ≤ j → j < i + n → p j ≡ false) → lowest p n i ≡ nowhere
kept_found p zero i f = refl
kept_found p (suc n) i f =
    ap (λ (b : Bool). elim b [ true ↦ at i | false ↦ lowest p n (suc i) ]) (f i (omega arith) (omega arith))
    ∙ kept_found p n (suc i) (λ j h l. f j (omega arith) (omega arith))

broken_found : (p : ℕ → Bool) (n i q : ℕ) → i ≤ q → q < i + n → p q ≡ true → ((j : ℕ) → i ≤ j → j < q → p j ≡ false) → lowest p n i ≡ at q
broken_found p zero i q h l e f = absurd (none h l)
  where
    none : i ≤ q → q < i + 0 → ⊥
    none h l = omega arith
broken_found p (suc n) i q h l e f = by (eqb i q) refl (λ k. broken_found p n (suc i) q k (omega arith) e (λ j a b. f j (omega arith) b))
  where
    by : (c : Bool) → eqb i q ≡ c → (suc i ≤ q → lowest p n (suc i) ≡ at q) → lowest p (suc n) i ≡ at q
    by true g k =
        let s : i ≡ q = eqb-true i q g in
        ap (λ (b : Bool). elim b [ true ↦ at i | false ↦ lowest p n (suc i) ]) (ap p s ∙ e) ∙ ap at s
    by false g k =
        let d : i < q = omega (arith, eqb-false i q g) in
        ap (λ (b : Bool). elim b [ true ↦ at i | false ↦ lowest p n (suc i) ]) (f i (omega arith) d) ∙ k d

-- Of any list of rules.
kept_answer : (rs : List Rule) → AllKept rs → answer_of rs ≡ given 0 0
kept_answer [] none = refl
kept_answer (r ∷ rs) (kept k all) =
    ap (λ (f : Found). blamed r.number f (answer_of rs)) (kept_found r.broken r.places 0 (λ j h l. k j (omega arith))) ∙ kept_answer rs all

blames_answer : {rs : List Rule} {n p : ℕ} → Blames rs n p → answer_of rs ≡ given n p
blames_answer (this {r} {rs} {p} b) =
    ap (λ (f : Found). blamed r.number f (answer_of rs))
    (broken_found r.broken r.places 0 p (omega arith) (omega (arith, b.within)) b.here (λ j h l. b.lowest j l))
blames_answer (later {r} {rs} k b) =
    ap (λ (f : Found). blamed r.number f (answer_of rs)) (kept_found r.broken r.places 0 (λ j h l. k j (omega arith))) ∙ blames_answer b

-- No rule has the number 0.
abbrev Counted : List Rule → Type 0
Counted [] = Unit {0}
Counted (r ∷ rs) = (0 < r.number) × Counted rs

-- The answer tells which: all are kept, or one is blamed.
data Told (rs : List Rule) (n p : ℕ) : Type 0 where
  clean : n ≡ 0 → p ≡ 0 → AllKept rs → Told rs n p
  guilty : 0 < n → Blames rs n p → Told rs n p

number_of_is : {n p m q : ℕ} → given n p ≡ given m q → n ≡ m
number_of_is e = ap (λ (v : Verdict). v.number) e

place_of_is : {n p m q : ℕ} → given n p ≡ given m q → p ≡ q
place_of_is e = ap (λ (v : Verdict). v.place) e

told : (rs : List Rule) (n p : ℕ) → Counted rs → answer_of rs ≡ given n p → Told rs n p
told [] n p c e = clean (sym (number_of_is e)) (sym (place_of_is e)) none
told (r ∷ rs) n p c e = by (lowest r.broken r.places 0) refl e (told rs n p c.1)
  where
    on : Told rs n p → Kept r → Told (r ∷ rs) n p
    on (clean a b all) k = clean a b (kept k all)
    on (guilty a b) k = guilty a (later k b)

    by : (f : Found) → lowest r.broken r.places 0 ≡ f → blamed r.number f (answer_of rs) ≡ given n p → (answer_of rs ≡ given n p → Told rs n p) → Told (r ∷ rs) n p
    by (at q) g e k =
        let l : Lowest r.broken r.places 0 q = found_at r.broken r.places 0 q g in
        let b : BrokenAt r q = record { within = omega (arith, l.below); here = l.here; lowest = λ i h. l.before i (omega arith) h } in
        subst (λ (m : ℕ). Told (r ∷ rs) m p) (number_of_is e) (subst (λ (m : ℕ). Told (r ∷ rs) r.number m) (place_of_is e) (guilty c.0 (this b)))
    by nowhere g e k = on (k e) (λ i h. none_found r.broken r.places 0 g i (omega arith) (omega arith))

counted : (core sheet : List ℕ) → Counted (rules core sheet)
counted core sheet =
    (omega arith, (omega arith, (omega arith, (omega arith, (omega arith, (omega arith, (omega arith, (omega arith, tt))))))))

-- "answer 0 if and only if no printed rule is broken"
pub zero_kept : (core sheet : List ℕ) → verdict_of core sheet ≡ given 0 0 → AllKept (rules core sheet)
unfolding verdict_of
zero_kept core sheet e = of (told (rules core sheet) 0 0 (counted core sheet) e)
  where
    of : Told (rules core sheet) 0 0 → AllKept (rules core sheet)
    of (clean a b all) = all
    of (guilty a b) = absurd (no a)
      where
        no : 0 < 0 → ⊥
        no h = omega arith

pub kept_zero : (core sheet : List ℕ) → AllKept (rules core sheet) → verdict_of core sheet ≡ given 0 0
unfolding verdict_of
kept_zero core sheet all = kept_answer (rules core sheet) all

-- "answer n at place p only if that rule is broken at p, at no lower place, and no earlier rule is broken anywhere"; and if
pub number_blames : (core sheet : List ℕ) (n p : ℕ) → 0 < n → verdict_of core sheet ≡ given n p → Blames (rules core sheet) n p
unfolding verdict_of
number_blames core sheet n p h e = of (told (rules core sheet) n p (counted core sheet) e)
  where
    of : Told (rules core sheet) n p → Blames (rules core sheet) n p
    of (clean a b all) = absurd (no a)
      where
        no : n ≡ 0 → ⊥
        no e = omega arith
    of (guilty a b) = b

pub blames_number : (core sheet : List ℕ) (n p : ℕ) → Blames (rules core sheet) n p → verdict_of core sheet ≡ given n p
unfolding verdict_of
blames_number core sheet n p b = blames_answer b

-- An answer of 0 is at place 0.
pub zero_given : (core sheet : List ℕ) → (verdict_of core sheet).number ≡ 0 → verdict_of core sheet ≡ given 0 0
unfolding verdict_of
zero_given core sheet z = of (told (rules core sheet) (answer_of (rules core sheet)).number (answer_of (rules core sheet)).place (counted core sheet) refl)
  where
    of : Told (rules core sheet) (answer_of (rules core sheet)).number (answer_of (rules core sheet)).place → answer_of (rules core sheet) ≡ given 0 0
    of (clean a b all) = kept_answer (rules core sheet) all
    of (guilty h b) = absurd (no h z)
      where
        no : {n : ℕ} → 0 < n → n ≡ 0 → ⊥
        no h z = omega arith
