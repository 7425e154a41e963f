-- Laws of the sprint: the common cases of the definitions, and how they carry a run on.
use Prim.Native.Nat.{ℕ, zero, suc, zero-le, ◌+◌, ◌<◌}
use mathlib.Core.Path.{◌≡◌, refl, sym, ◌∙◌, ap}
use mathlib.Core.Bool.{Bool, true, false, ◌&&◌, ◌||◌, not, false≢true}
use mathlib.Core.List.{List}
use native.Mathlib.Omega.{arith}
use borrow.Author.Tests.{le-ltb, ne_eqb}
use lib.Dec.{eqb}
use lib.IntN.{ℤ, pos, negsuc}
use lib.ListN.{get_or}
use Rattle.machine.specs.declared.outcome.Cause.{Cause}
use Rattle.machine.specs.declared.outcome.Registers.{Registers}
use Rattle.machine.specs.declared.outcome.Hot.{Hot}
use Rattle.std.specs.Prelude.{option_and_then}
use Rattle.std.specs.Result.{result_ok}
use Rattle.std.specs.declared.result.Result.{Result}
use Rattle.std.specs.declared.result.Result.TheVariants.{Ok, Err}
use Rattle.std.specs.declared.option.Option.{Option}
use Rattle.std.specs.declared.option.Option.TheVariants.{Some, None}
use Rattle.machine.specs.Outcomes.{Res, on, halt, ◌>>=◌, part_of}
use Rattle.machine.specs.States.{State, state_of}
use Rattle.machine.specs.Memory.{base_of, pattern_of, k_address_of, read_of}
use Rattle.machine.specs.Stack.{push_b_of, a_empty_of, b_full_of}
use Rattle.machine.specs.Stores.{litc_of, place_of}
use Rattle.machine.specs.Calls.{within_of, index_of, indexed_of, load_of, data_call_of, left_of, call_of, fetched_of, call_k_of}
use Rattle.machine.specs.Arithmetics.{taken_of}
use Rattle.machine.specs.Steps.{Ended, next, plain, execute_of}
use Rattle.word.specs.Choices.{if◌then◌otherwise◌}
use Rattle.machine.specs.ForCode.Sprints.{upon, under_of, ok_of, element_of, raised, Quickly, Hurries, rest_of_run}
use Rattle.machine.proofs.Calculus.{is_no, is_given}
use Rattle.machine.proofs.Running.{goes_on_is}
use Rattle.word.specs.Kinds.{kind_of}
use Rattle.word.specs.Addresses.{sum_of}
use Rattle.word.specs.Field.{with_field}
use Rattle.word.specs.Layout.{flag_of, sign_of, presence_of, size_of, address_of}

-- ---- answers

pub quick_as : (core : List ℕ) (g : Registers) (r : Option Hot) {o o' : Ended} → o ≡ o' → Quickly core g r o → Quickly core g r o'
quick_as core g (Some t) e h = h ∙ e
quick_as core g None e h = tt

-- What wrote no word.
pub hurries_reads : {core : List ℕ} {g : Registers} (r : Option Hot) {o : Ended} → Quickly core g r o → Hurries core core g r o
hurries_reads (Some t) h = record { same = h; kept = tt }
hurries_reads None h = record { same = tt; kept = refl }

-- A part that `ok` took on.
pub at_hand : (r : Result ℕ Cause) {o : Res ℕ} {m : ℕ} → part_of r ≡ o → Some m ≡ result_ok r → o ≡ on m
at_hand (Ok w) {m = m} e h = let k : w ≡ m = cc in sym e ∙ ap on k
at_hand (Err n) e h = cc

-- ---- the hot registers do not say where a cell stands

address_upon : (core : List ℕ) (g : Registers) (t : Hot) (here k : ℕ) → k_address_of here (state_of core (upon g t)) k ≡ k_address_of here (state_of core g) k
unfolding k_address_of pattern_of base_of
address_upon core g t here k = refl

pub place_upon : (core : List ℕ) (g : Registers) (t : Hot) (here a : ℕ) → place_of here (state_of core (upon g t)) a ≡ place_of here (state_of core g) a
unfolding place_of k_address_of pattern_of base_of
place_upon core g t here a = refl

-- ---- a word comes to A

module _ (core : List ℕ) (g : Registers) (t : Hot) where
  a_there : t.afull ≡ false → a_empty_of (state_of core (upon g t)) ≡ on (state_of core (upon g t))
  unfolding a_empty_of if◌then◌otherwise◌
  a_there e = rw e

  a_moves : t.afull ≡ true → t.bfull ≡ false → a_empty_of (state_of core (upon g t)) ≡ on (state_of core (upon g (record { a = 0; b = t.a; afull = false; bfull = true; c = t.c; l = t.l })))
  unfolding a_empty_of push_b_of if◌then◌otherwise◌ ◌>>=◌
  a_moves e f = rw (e, f)

-- ---- OPDC of an operand brings its word to A

called : (core : List ℕ) (g : Registers) (t u : Hot) (here k m : ℕ) → a_empty_of (state_of core (upon g t)) ≡ on (state_of core (upon g u)) → k_address_of here (state_of core g) k ≡ on m → flag_of (get_or core m 0) ≡ false → litc_of (state_of core (upon g t)) (get_or core m 0) ≡ call_k_of false here (state_of core (upon g t)) k
unfolding litc_of call_k_of fetched_of call_of left_of kind_of if◌then◌otherwise◌ ◌>>=◌
called core g t u here k m e a f = rw (e, address_upon core g u here k, a, f)

pub call_operand : (core : List ℕ) (g : Registers) (t : Hot) (here k m : ℕ) → (t.afull && t.bfull) ≡ false → k_address_of here (state_of core g) k ≡ on m → flag_of (get_or core m 0) ≡ false → plain (litc_of (state_of core (upon g t)) (get_or core m 0)) ≡ plain (call_k_of false here (state_of core (upon g t)) k)
call_operand core g t here k m h a f = ap plain (go t.afull t.bfull refl refl h)
  where
    go : (x y : Bool) → t.afull ≡ x → t.bfull ≡ y → (x && y) ≡ false → litc_of (state_of core (upon g t)) (get_or core m 0) ≡ call_k_of false here (state_of core (upon g t)) k
    go false y e _ _ = called core g t t here k m (a_there core g t e) a f
    go true false e q _ = called core g t _ here k m (a_moves core g t e q) a f
    go true true e q z = absurd (false≢true (sym z))

-- ---- OPDC of any word, where no word is pushed

pub call_raised : (core : List ℕ) (g : Registers) (t : Hot) (here k m : ℕ) → (t.afull && t.bfull) ≡ false → k_address_of here (state_of core g) k ≡ on m → plain (call_of false m (state_of core (upon g (raised t (get_or core m 0))))) ≡ plain (call_k_of false here (state_of core (upon g t)) k)
unfolding call_k_of fetched_of raised if◌then◌otherwise◌ ◌>>=◌
call_raised core g t here k m h a = ap plain (go t.afull t.bfull refl refl h)
  where
    go : (x y : Bool) → t.afull ≡ x → t.bfull ≡ y → (x && y) ≡ false → call_of false m (state_of core (upon g (raised t (get_or core m 0)))) ≡ call_k_of false here (state_of core (upon g t)) k
    go false y e _ _ = rw (a_there core g t e, address_upon core g t here k, a, e)
    go true false e q _ = rw (a_moves core g t e q, address_upon core g (record { a = 0; b = t.a; afull = false; bfull = true; c = t.c; l = t.l }) here k, a, e)
    go true true e q z = absurd (false≢true (sym z))

-- ---- what a part that went on tells

clash : {A : Type 0} {x : A} {n : Cause} → halt n ≡ on x → ⊥
clash e = let z : ◌≡◌ {A = ℕ} 0 1 = cc in omega arith

none_some : {A : Type 0} {x : A} → None ≡ Some x → ⊥
none_some e = let z : ◌≡◌ {A = ℕ} 0 1 = cc in omega arith

same_some : {A : Type 0} {x y : A} → Some x ≡ Some y → x ≡ y
same_some e = cc

of_given : {A B G : Type 0} (o : Option A) (f : A → Option B) {y : B} → option_and_then f o ≡ Some y → ((x : A) → o ≡ Some x → f x ≡ Some y → G) → G
of_given (Some x) f e k = k x refl e
of_given None f e k = absurd (none_some e)

of_no : {B G : Type 0} (b : Bool) (o : Option B) {y : B} → (if b then None otherwise o) ≡ Some y → (b ≡ false → o ≡ Some y → G) → G
unfolding if◌then◌otherwise◌
of_no true o e k = absurd (none_some e)
of_no false o e k = k refl e

ok_on : {A : Type 0} (o : Res A) {x : A} → ok_of o ≡ Some x → o ≡ on x
ok_on (on y) e = ap on (same_some e)
ok_on (halt n) e = absurd (none_some e)

neither_first : (x y : Bool) → (x || y) ≡ false → x ≡ false
neither_first false y h = refl
neither_first true y h = absurd (false≢true (sym h))

neither_second : (x y : Bool) → (x || y) ≡ false → y ≡ false
neither_second false y h = h
neither_second true y h = absurd (false≢true (sym h))

unturned : (b : Bool) → not b ≡ false → b ≡ true
unturned true e = refl
unturned false e = absurd (false≢true (sym e))

-- ---- an element of an array

-- What has an element has a size over 0.
sized : (x size i : ℕ) → index_of x size ≡ on i → eqb size 0 ≡ false
unfolding index_of within_of if◌then◌otherwise◌ ◌>>=◌
sized x zero i e = go (taken_of x) e
  where
    go : (o : Res ℤ) → (o >>= (λ z. within_of z 0)) ≡ on i → eqb 0 0 ≡ false
    go (on (pos n)) e = absurd (clash (rw (le-ltb n 0 zero-le) at e))
    go (on (negsuc n)) e = absurd (clash e)
    go (halt n) e = absurd (clash e)
sized x (suc size) i e = ne_eqb (suc size) 0 (λ e. omega arith)

module _ (core : List ℕ) (g : Registers) (t : Hot) (x d : ℕ) where
  -- The descriptor is in A and its index in B.
  called_with : State
  called_with = state_of core (upon g (record { a = d; b = x; afull = true; bfull = true; c = t.c; l = t.l }))

  b_there : b_full_of called_with ≡ on called_with
  unfolding b_full_of if◌then◌otherwise◌ called_with
  b_there = refl

  indexes : (i e : ℕ) → index_of x (size_of d) ≡ on i → with_field (with_field d 8 17 0) 33 47 (sum_of (address_of d) i) ≡ e → on (state_of core (upon g (record { a = e; b = 0; afull = true; bfull = false; c = t.c; l = t.l }))) ≡ indexed_of called_with d
  unfolding indexed_of called_with
  indexes i e h q =
      is_no _ _ (sized x (size_of d) i h)
      (is_given _ b_there (is_given _ h (ap (λ (y : ℕ). on (state_of core (upon g (record { a = y; b = 0; afull = true; bfull = false; c = t.c; l = t.l })))) (sym q))))

  finds : (i e m w : ℕ) → index_of x (size_of d) ≡ on i → with_field (with_field d 8 17 0) 33 47 (sum_of (address_of d) i) ≡ e → m ≡ address_of e → read_of core m ≡ on w → flag_of w ≡ false → on (state_of core (upon g (record { a = w; b = 0; afull = true; bfull = false; c = t.c; l = t.l }))) ≡ data_call_of false called_with d
  unfolding data_call_of load_of
  finds i e m w h q o r f = is_given _ (sym (indexes i e h q)) (is_no _ _ refl (is_given _ (ap (read_of core) (sym o) ∙ r) (is_no _ _ f refl)))

  calls_data : (m : ℕ) → flag_of d ≡ true → sign_of d ≡ false → presence_of d ≡ true → under_of t ≡ Some x → data_call_of false called_with d ≡ call_of false m (state_of core (upon g (raised t d)))
  unfolding call_of kind_of raised under_of if◌then◌otherwise◌ called_with
  calls_data m f s p u = go t.afull t.bfull refl refl
    where
      go : (v b : Bool) → t.afull ≡ v → t.bfull ≡ b → data_call_of false called_with d ≡ call_of false m (state_of core (upon g (raised t d)))
      go true b e _ = let k : t.a ≡ x = same_some (rw e at u) in rw (f, s, p, e, k)
      go false true e q = let k : t.b ≡ x = same_some (rw (e, q) at u) in rw (f, s, p, e, q, k)
      go false false e q = absurd (none_some (rw (e, q) at u))

pub takes_element : (core : List ℕ) (g : Registers) (t : Hot) (d n e m w : ℕ) → flag_of d ≡ true → element_of t d ≡ Some e → m ≡ address_of e → read_of core m ≡ on w → flag_of w ≡ false → next (state_of core (upon g (record { a = w; b = 0; afull = true; bfull = false; c = t.c; l = t.l }))) ≡ plain (call_of false n (state_of core (upon g (raised t d))))
unfolding element_of
takes_element core g t d n e m w f h o r z =
    of_no (sign_of d || not (presence_of d)) _ h
    (λ b q. of_given (under_of t) _ q
    (λ x u v. of_given (ok_of (index_of x (size_of d))) _ v
    (λ i j y. ap plain
    (finds core g t x d i e m w (ok_on (index_of x (size_of d)) j) (same_some y) o r z
    ∙ calls_data core g t x d n f (neither_first (sign_of d) (not (presence_of d)) b) (unturned (presence_of d) (neither_second (sign_of d) (not (presence_of d)) b)) u))))

-- ---- a run carried on

pub sprints_on : {core core' : List ℕ} {x : Hot} (b i : ℕ) (g : Registers) (t : Hot) → i < b → Hurries core core' g (Some x) (execute_of (state_of core (upon g t))) → rest_of_run b i (state_of core (upon g t)) ≡ rest_of_run b (i + 1) (state_of core' (upon g x))
sprints_on {core} {core'} {x} b i g t m d = goes_on_is b i (upon g t) m (record { same = d.same; kept = refl })
