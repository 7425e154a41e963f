-- Laws of the line: its digits, its parts, and the room that it is written over.
use Prim.Native.Nat.{ℕ, suc, min, ◌+◌, ◌-◌, ◌<◌, ◌≤◌}
use mathlib.Core.Path.{◌≡◌, refl, sym, ◌∙◌, ap}
use mathlib.Core.Bool.{Bool, true, false, not, cond}
use mathlib.Core.List.{List, [], ◌∷◌, ◌++◌, append_assoc}
use native.Mathlib.Omega.{arith}
use native.Mathlib.Numerals.{add-one}
use borrow.Author.Tests.{ltb-true, ltb-false}
use lib.Dec.{eqb, ltb}
use Rattle.std.specs.List.{position_or_len}
use Rattle.std.specs.Prelude.{unwrap_or}
use Rattle.std.specs.declared.option.Option.{Option}
use Rattle.std.specs.declared.option.Option.TheVariants.{Some, None}
use lib.ListN.{length, get_or, take, drop, set, length-drop, drop_of_length-le}
use lib.Seq.{drop-cons, take_all, sets, sets-eq}
use Rattle.word.specs.Choices.{if◌then◌otherwise◌}
use Rattle.word.specs.Digits.{digits, byte_base, to_digits_of}
use Rattle.word.proofs.Places.{digits_length}
use Rattle.std.specs.declared.result.Result.{Result}
use Rattle.std.specs.declared.result.Result.TheVariants.{Ok, Err}
use Rattle.trial.specs.declared.trials.Sum.{Sum}
use Rattle.trial.specs.Trials.{says_outcome}
use Rattle.trial.specs.Lines.{leading_of, glyph_of, spelled_of, decimal_of, octal_of, sum_line_of, line_of, set_all, Written}

-- ---- spelling: i digits are written

pub spell_more : (ds t : List ℕ) {t' u : List ℕ} (c i : ℕ) → i < length ds → t ++ spelled_of (drop i ds) c ≡ u → t' ≡ t ++ (glyph_of (get_or ds i 0) ∷ []) → t' ++ spelled_of (drop (i + 1) ds) c ≡ u
unfolding spelled_of
spell_more ds t {t'} {u} c i h e f =
    let s : t ++ (glyph_of (get_or ds i 0) ∷ spelled_of (drop (suc i) ds) c) ≡ u = rw (drop-cons ds i 0 h) at e in
    rw (f, add-one i, append_assoc t (glyph_of (get_or ds i 0) ∷ []) (spelled_of (drop (suc i) ds) c)) s

pub spell_end : (ds t : List ℕ) {t' u : List ℕ} (c i : ℕ) → length ds ≤ i → t ++ spelled_of (drop i ds) c ≡ u → t' ≡ t ++ (c ∷ []) → t' ≡ u
unfolding spelled_of
spell_end ds t c i h e f =
    let d : drop i ds ≡ [] = drop_of_length-le ds h in
    f ∙ (rw d at e)

-- ---- the digits of a number, spelled

written_ten : (n : ℕ) (old : List ℕ) → to_digits_of 10 n old ≡ digits 10 (length old) n
unfolding to_digits_of byte_base if◌then◌otherwise◌
written_ten n old = refl

written_eight : (n : ℕ) (old : List ℕ) → to_digits_of 8 n old ≡ digits 8 (length old) n
unfolding to_digits_of byte_base if◌then◌otherwise◌
written_eight n old = refl

module _ (t : List ℕ) (end n c : ℕ) {new ds : List ℕ} {end' : ℕ} where
  pub decimal_said : (zeros : List ℕ) {k : ℕ} → length zeros ≡ 20 → ds ≡ to_digits_of 10 n zeros → k ≡ leading_of ds
      → (new ≡ t ++ spelled_of (take (20 - k) (drop k ds)) c) × (end' ≡ end + length (take (20 - k) (drop k ds)) + 1) → (new ≡ t ++ decimal_of n c) × (end' ≤ end + 21)
  unfolding decimal_of
  decimal_said zeros {k} z d e w =
      let same : ds ≡ digits 10 20 n = d ∙ written_ten n zeros ∙ ap (λ (m : ℕ). digits 10 m n) z in
      let long : length ds ≡ 20 = ap length same ∙ digits_length 10 20 n in
      let rest : take (20 - k) (drop k ds) ≡ drop k ds = take_all (20 - k) (drop k ds) (omega (arith, length-drop k ds, long)) in
      (w.0 ∙ rw (rest, e, same), omega (arith, w.1, ap length rest, length-drop k ds, long))

  pub octal_said : (zeros : List ℕ) → length zeros ≡ 16 → ds ≡ to_digits_of 8 n zeros → (new ≡ t ++ spelled_of ds c) × (end' ≡ end + length ds + 1) → (new ≡ t ++ octal_of n c) × (end' ≤ end + 17)
  unfolding octal_of
  octal_said zeros z d w =
      let same : ds ≡ digits 8 16 n = d ∙ written_eight n zeros ∙ ap (λ (m : ℕ). digits 8 m n) z in
      (w.0 ∙ rw same, omega (arith, w.1, ap length same, digits_length 8 16 n))

-- ---- leading zeros: the place of the first other digit, or of the last

abbrev other : ℕ → Bool
other d = not (eqb d 0)

leads : (d : ℕ) (ds : List ℕ) → min (position_or_len other (d ∷ ds)) (length ds) ≡ leading_of (d ∷ ds)
unfolding leading_of if◌then◌otherwise◌
leads d [] = omega arith
leads d (e ∷ ds) = by (eqb d 0) (leads e ds)
  where
    by : (b : Bool) → min (position_or_len other (e ∷ ds)) (length ds) ≡ leading_of (e ∷ ds)
        → min (cond (not (not b)) (1 + (position_or_len other (e ∷ ds))) 0) (suc (length ds)) ≡ (if b then suc (leading_of (e ∷ ds)) otherwise 0)
    by true h = omega arith
    by false h = omega arith

pub leading_said : (ds : List ℕ) {r : Option ℕ} → length ds ≡ 20 → r ≡ cond (ltb (position_or_len other ds) (length ds)) (Some (position_or_len other ds)) None
    → (unwrap_or r 19 ≡ leading_of ds) × (leading_of ds < 20)
leading_said [] l e = absurd (omega arith)
leading_said (d ∷ ds) {r} l e = (rw e (by _ refl), omega (arith, leads d ds))
  where
    by : (b : Bool) → ltb (position_or_len other (d ∷ ds)) (length (d ∷ ds)) ≡ b → unwrap_or (cond b (Some (position_or_len other (d ∷ ds))) None) 19 ≡ leading_of (d ∷ ds)
    by true h = omega (arith, leads d ds, ltb-true _ _ h)
    by false h = omega (arith, leads d ds, ltb-false _ _ h)

-- ---- the line

-- One part after another.
before : (t a b : List ℕ) {u v : List ℕ} → u ≡ t ++ a → v ≡ u ++ b → v ≡ t ++ (a ++ b)
before t a b p q = q ∙ rw p (append_assoc t a b)

pub sum_said : (x : Sum) (t t₁ t₂ t₃ t₄ t₅ : List ℕ) {new : List ℕ} → t₁ ≡ t ++ decimal_of x.stop 32 → t₂ ≡ t₁ ++ decimal_of x.completed 32 → t₃ ≡ t₂ ++ decimal_of x.c 32
    → t₄ ≡ t₃ ++ decimal_of x.l 32 → t₅ ≡ t₄ ++ decimal_of x.s 32 → new ≡ t₅ ++ octal_of x.cell 10 → new ≡ t ++ sum_line_of x
unfolding sum_line_of
sum_said x t t₁ t₂ t₃ t₄ t₅ e₁ e₂ e₃ e₄ e₅ e₆ =
    before t (decimal_of x.stop 32) _ e₁ (before t₁ (decimal_of x.completed 32) _ e₂ (before t₂ (decimal_of x.c 32) _ e₃ (before t₃ (decimal_of x.l 32) _ e₄ (before t₄ (decimal_of x.s 32) (octal_of x.cell 10) e₅ e₆))))

pub line_ended : (x : Sum) {t : Result Sum ℕ} {text : List ℕ} → t ≡ Ok x → text ≡ sum_line_of x → text ≡ line_of (says_outcome t)
unfolding line_of
line_ended x e w = rw e w

pub line_refused : (n : ℕ) {t : Result Sum ℕ} {text : List ℕ} → t ≡ Err n → text ≡ decimal_of n 10 → text ≡ line_of (says_outcome t)
unfolding line_of
line_refused n e w = rw e w

-- A text that is set over a room leaves what stands before and after it.
set_sets : (room : List ℕ) (at : ℕ) (text : List ℕ) → set_all room at text ≡ sets room at text
unfolding set_all
set_sets room at [] = refl
set_sets room at (x ∷ xs) = rw (add-one at) (set_sets (set room at x) (suc at) xs)

pub line_written : (room text : List ℕ) {part new : List ℕ} {end : ℕ} → text ≡ part → length part ≡ end → end ≤ length room → new ≡ part ++ drop end room → Written room 0 text new end
line_written room text {part} {new} {end} e l h w =
    let k : 0 + length text ≡ end = omega (arith, ap length e, l) in
    record { room = w ∙ sym (set_sets room 0 text ∙ sets-eq text room 0 (omega arith) ∙ rw (k, e)); next = sym k }
