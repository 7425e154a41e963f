-- Every syllable that the scan passes ends well: on at a syllable of the code, or communicated, or stopped for 15, 20 or 21.
use Prim.Native.Nat.{ℕ, ◌+◌, ◌*◌, ◌<◌}
use mathlib.Core.Path.{◌≡◌, refl, sym, ◌∙◌, subst}
use mathlib.Core.Bool.{Bool, true, false, ◌&&◌, true≢false}
use mathlib.Core.List.{List, [], ◌∷◌}
use lib.Dec.{eqb, leb}
use Rattle.machine.specs.Outcomes.{Res, on}
use Rattle.machine.specs.States.{State}
use Rattle.machine.specs.Arithmetics.{reckon_of, relate_of}
use Rattle.machine.specs.Bits.{lnd_of, lor_of, lqv_of, lng_of, mop_of, ssp_of, ssn_of, chs_of}
use Rattle.machine.specs.Stores.{com_of}
use Rattle.machine.specs.Branches.{landing_of}
use Rattle.machine.specs.Steps.{plain, logic_as, branch_as, operate_of, perform_of}
use Rattle.syllable.specs.declared.Logic.{Logic as LogicGroup}
use Rattle.syllable.specs.declared.Logic.TheVariants.{Lnd, Lor, Lqv, Lng}
use Rattle.syllable.specs.declared.Branch.{Branch as BranchGroup}
use Rattle.syllable.specs.declared.Branch.TheVariants.{Bfw, Bbw, Bfc, Bbc}
use Rattle.syllable.specs.declared.Operator.{Operator}
use Rattle.syllable.specs.declared.Operator.TheVariants.{Arithmetic, Relation, Logic, Branch, Mop, Mds, Ssp, Ssn, Chs, Top, Xch, Dup, Del, Nop, Lod, Std, Snd, Inx, Mks, Xit, Com, NotBuilt}
use Rattle.syllable.specs.declared.Syllable.{Syllable}
use Rattle.syllable.specs.declared.Syllable.TheVariants.{Litc, Opdc, Desc, Operator as Operates}
use Rattle.syllable.specs.ForTheorems.Propers.{Proper, litc}
use Rattle.syllable.specs.Positions.{next_of}
use Rattle.sheet.specs.Sheets.{code_of, code_words_of, room_of, cell_of}
use Rattle.inspector.specs.Scan.{literal, number, place, Shape, Left, leaves, when, value, branched, branched_if, communicated, logic_left, within, broken, syllable_at, syllable_left, shape_at, closes}
use Rattle.inspector.specs.Targets.{distance, misses_at, misses, turn_misses, misses_target}
use Rattle.inspector.specs.Turns.{branches, turn_of}
use Rattle.demands.proofs.Safe.{Safe, goes}
use Rattle.demands.proofs.Passed.{Passed}
use Rattle.demands.proofs.Holds.{Kept, At}
use Rattle.demands.proofs.Words.{body_flag, sign_flag, mop_off, reckon_safe, relate_safe}
use Rattle.demands.proofs.Operators.{Does, litc_does, two_does, two_words_does, one_word_does, top_does, xch_does, dup_does, del_does}
use Rattle.demands.proofs.Stores.{lod_does, snd_does, std_does, com_safe}
use Rattle.demands.proofs.Calls.{call_does}
use Rattle.demands.proofs.Branches.{Unbroken, unbroken_when, always_ends, if_off_ends}
use Rattle.demands.proofs.Ends.{Good, unbroken, left_next, not_last, falls, plain_good, always_good, last_good, if_good}

-- A branch that is not taken leaves an empty shape.
none_left : (b : Bool) → broken (when b []) ≡ false → when b [] ≡ leaves []
none_left true e = refl
none_left false e = absurd (true≢false e)

when_none : (room : ℕ) (b : Bool) → broken (within room (when b [])) ≡ false → within room (when b []) ≡ leaves []
when_none room true e = none_left (leb 0 room) e
when_none room false e = absurd (true≢false e)

if_none : (room : ℕ) (xs : Shape) → broken (within room (branched_if xs)) ≡ false → within room (branched_if xs) ≡ leaves []
if_none room [] e = absurd (true≢false e)
if_none room (literal k ∷ []) e = absurd (true≢false e)
if_none room (literal k ∷ b ∷ []) e = when_none room (value b) e
if_none room (literal k ∷ b ∷ c ∷ xs) e = absurd (true≢false e)
if_none room (number ∷ xs) e = absurd (true≢false e)
if_none room (place ∷ xs) e = absurd (true≢false e)

com_ends : (core sheet : List ℕ) → Passed core sheet → (p : ℕ) (st : State) (xs : Shape) → At core sheet p xs st → Unbroken (communicated sheet xs) (Safe (λ (u : State). Kept core sheet u.core) (com_of st))
com_ends core sheet ok p st [] v = tt
com_ends core sheet ok p st (a ∷ []) v = unbroken_when (value a && eqb (cell_of sheet 9) 3) [] (λ e. com_safe core sheet ok p st a e v)
com_ends core sheet ok p st (a ∷ b ∷ xs) v = tt

ten_bits : {n : ℕ} → Proper (Litc n) → n < 1024
ten_bits (litc h) = h

module _ (core sheet : List ℕ) (ok : Passed core sheet) (here i : ℕ) (h : i < 4 * code_words_of sheet) (xs : Shape) (shape : shape_at core sheet i ≡ leaves xs) (st : State) (v : At core sheet (next_of (4 * code_of sheet + i)) xs st) where
  abbrev p : ℕ
  p = next_of (4 * code_of sheet + i)

  good : (x : Syllable) → syllable_at core sheet i ≡ x → (r : Res State) → closes (turn_of x) ≡ false → Does core sheet p (syllable_left sheet x xs) r → Good core sheet (plain r)
  good x q r c d = plain_good core sheet ok i h xs shape x q r c d

  -- A syllable that the scan always breaks does not stand in the code.
  unseen : (x : Syllable) → syllable_at core sheet i ≡ x → broken (within (room_of sheet) (syllable_left sheet x xs)) ≡ true → ⊥
  unseen x q b = true≢false (sym b ∙ left_next core sheet ok i h xs shape x q)

  logic_does : (o : LogicGroup) → Does core sheet p (logic_left o xs) (logic_as o st)
  logic_does Lnd = two_words_does core sheet ok p st lnd_of (λ b a e. body_flag b _ ∙ e) xs v
  logic_does Lor = two_words_does core sheet ok p st lor_of (λ b a e. body_flag b _ ∙ e) xs v
  logic_does Lqv = two_words_does core sheet ok p st lqv_of (λ b a e. body_flag b _ ∙ e) xs v
  logic_does Lng = one_word_does core sheet ok p st lng_of (λ a e. body_flag a _ ∙ e) xs v

  -- Rule 35 looked where the machine goes.
  aimed : (o : BranchGroup) → syllable_at core sheet i ≡ Operates (Branch o) → turn_misses core sheet i (branches o) ≡ false
  unfolding misses_target
  aimed o q = subst (λ (y : Syllable). turn_misses core sheet i (turn_of y) ≡ false) q (ok.targets i h)

  far : (back : Bool) → misses core sheet i back ≡ false → misses_at core sheet (landing_of back p (distance (leaves xs))) ≡ false
  far back e = subst (λ (o : Left). misses_at core sheet (landing_of back p (distance o)) ≡ false) shape e

  branch_good : (o : BranchGroup) → syllable_at core sheet i ≡ Operates (Branch o) → Good core sheet (plain (branch_as o st))
  branch_good Bfw q =
      always_good core sheet ok
      (unbroken (room_of sheet) (branched xs) (left_next core sheet ok i h xs shape _ q) (always_ends core sheet ok p false st xs (far false (aimed Bfw q)) v))
  branch_good Bbw q =
      always_good core sheet ok
      (unbroken (room_of sheet) (branched xs) (left_next core sheet ok i h xs shape _ q) (always_ends core sheet ok p true st xs (far true (aimed Bbw q)) v))
  branch_good Bfc q =
      if_good core sheet ok
      (unbroken (room_of sheet) (branched_if xs) (left_next core sheet ok i h xs shape _ q) (if_off_ends core sheet ok p false st xs (far false (aimed Bfc q)) v))
      (falls core sheet ok i h xs shape _ q [] (not_last core sheet ok i h xs shape _ q refl) (if_none (room_of sheet) xs (left_next core sheet ok i h xs shape _ q)))
  branch_good Bbc q =
      if_good core sheet ok
      (unbroken (room_of sheet) (branched_if xs) (left_next core sheet ok i h xs shape _ q) (if_off_ends core sheet ok p true st xs (far true (aimed Bbc q)) v))
      (falls core sheet ok i h xs shape _ q [] (not_last core sheet ok i h xs shape _ q refl) (if_none (room_of sheet) xs (left_next core sheet ok i h xs shape _ q)))

  operate_good : (o : Operator) → syllable_at core sheet i ≡ Operates o → Good core sheet (operate_of here o st)
  unfolding operate_of
  operate_good (Arithmetic o) q = good _ q _ refl (two_does core sheet ok p st (reckon_of o) (reckon_safe o) xs v)
  operate_good (Relation o) q = good _ q _ refl (two_does core sheet ok p st (relate_of o) (relate_safe o) xs v)
  operate_good (Logic o) q = good _ q _ refl (logic_does o)
  operate_good (Branch o) q = branch_good o q
  operate_good Mop q = good _ q _ refl (one_word_does core sheet ok p st mop_of (λ a _. mop_off a) xs v)
  operate_good Mds q = absurd (unseen _ q refl)
  operate_good Ssp q = good _ q _ refl (one_word_does core sheet ok p st ssp_of (λ a e. sign_flag a 0 ∙ e) xs v)
  operate_good Ssn q = good _ q _ refl (one_word_does core sheet ok p st ssn_of (λ a e. sign_flag a 1 ∙ e) xs v)
  operate_good Chs q = good _ q _ refl (one_word_does core sheet ok p st chs_of (λ a e. sign_flag a _ ∙ e) xs v)
  operate_good Top q = good _ q _ refl (top_does core sheet ok p st xs v)
  operate_good Xch q = good _ q _ refl (xch_does core sheet ok p st xs v)
  operate_good Dup q = good _ q _ refl (dup_does core sheet ok p st xs v)
  operate_good Del q = good _ q _ refl (del_does core sheet ok p st xs v)
  operate_good Nop q = good _ q (on st) refl (λ room. goes v)
  operate_good Lod q = good _ q _ refl (lod_does core sheet ok p here st xs v)
  operate_good Std q = good _ q _ refl (std_does core sheet ok p here st xs v)
  operate_good Snd q = good _ q _ refl (snd_does core sheet ok p here st xs v)
  operate_good Inx q = absurd (unseen _ q refl)
  operate_good Mks q = absurd (unseen _ q refl)
  operate_good Xit q = absurd (unseen _ q refl)
  operate_good Com q =
      last_good core sheet ok
      (unbroken (room_of sheet) (communicated sheet xs) (left_next core sheet ok i h xs shape _ q) (com_ends core sheet ok p st xs v))
  operate_good (NotBuilt k) q = absurd (unseen _ q refl)

  pub perform_good : (x : Syllable) → syllable_at core sheet i ≡ x → Proper x → Good core sheet (perform_of here x st)
  unfolding perform_of
  perform_good (Litc k) q t = good _ q _ refl (litc_does core sheet ok p st k (ten_bits t) xs v)
  perform_good (Opdc k) q t = good _ q _ refl (call_does core sheet ok p false here k st xs v)
  perform_good (Desc k) q t = good _ q _ refl (call_does core sheet ok p true here k st xs v)
  perform_good (Operates o) q t = operate_good o q
