-- What is shown of every value that a result can have.
use mathlib.Core.Path.{◌≡◌, refl, sym, subst}
use mathlib.Core.Bool.{Bool, true, false}
use Prim.Native.Nat.{ℕ, ◌+◌, ◌/◌, ◌<◌}
use native.Mathlib.Omega.{arith}
use borrow.Author.Tests.{ltb-true, lt-ltb}
use lib.Dec.{ltb, eqb}
use Rattle.machine.specs.Outcomes.{Res, on, halt, ◌>>=◌}
use Rattle.machine.specs.Memory.{in_core}
use Rattle.machine.specs.Stack.{slot_of}
use Rattle.machine.proofs.Calculus.{is_yes}
use Rattle.word.specs.Choices.{if◌then◌otherwise◌}

-- What a result that went on says of its value.
pub data Gives {A : Type 0} (P : A → Type 0) : Res A → Type 0 where
  goes : {a : A} → P a → Gives P (on a)
  stops : {n : _} → Gives P (halt n)

pub gives_if : {A : Type 0} {P : A → Type 0} (b : Bool) {x y : Res A} → (b ≡ true → Gives P x) → (b ≡ false → Gives P y) → Gives P (if b then x otherwise y)
unfolding if◌then◌otherwise◌
gives_if true f g = f refl
gives_if false f g = g refl

pub gives_bind : {A B : Type 0} {P : A → Type 0} {Q : B → Type 0} {o : Res A} {f : A → Res B} → Gives P o → ((a : A) → P a → Gives Q (f a)) → Gives Q (o >>= f)
unfolding ◌>>=◌
gives_bind (goes p) k = k _ p
gives_bind stops k = stops

pub given : {A : Type 0} {P : A → Type 0} {o : Res A} {a : A} → Gives P o → o ≡ on a → P a
given {P = P} (goes {a = b} p) e = subst P (inj e) p
  where
    inj : {A : Type 0} {x y : A} → on x ≡ on y → x ≡ y
    inj e = cc
given stops e = absurd (clash e)
  where
    clash : {A : Type 0} {a : A} {n : _} → ◌≡◌ {A = Res A} (halt n) (on a) → ⊥
    clash e = let z : ◌≡◌ {A = ℕ} 0 1 = cc in omega arith

pub any : {A : Type 0} (o : Res A) → Gives (λ (a : A). Unit {0}) o
any (on a) = goes tt
any (halt n) = stops

pub gives : {A : Type 0} {P : A → Type 0} (o : Res A) → ((a : A) → o ≡ on a → P a) → Gives P o
gives (on a) f = goes (f a refl)
gives (halt n) f = stops

-- The address of a push is in core, one above S.
pub slot_gives : (len s r : ℕ) → Gives (λ (m : ℕ). (m < len) × (m ≡ s + 1)) (slot_of len s r)
unfolding slot_of in_core
slot_gives len s r =
    gives_if (eqb ((s + 1) / 64) r) (λ _. stops) (λ _. gives_if (ltb (s + 1) len) (λ t. goes (ltb-true (s + 1) len t, refl)) (λ _. stops))

pub in_core_on : (len m : ℕ) → m < len → in_core len m ≡ on m
unfolding in_core
in_core_on len m h = sym (is_yes _ _ (lt-ltb m len h) refl)
