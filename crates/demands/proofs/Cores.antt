-- Where the named words stand, and that a store at one of them keeps a core.
use Prim.Native.Nat.{ℕ, ◌+◌, ◌*◌, ◌≤◌, ◌<◌}
use mathlib.Core.Path.{◌≡◌, sym, ◌∙◌, ap, subst}
use mathlib.Core.Logic.{inl, inr}
use mathlib.Core.Bool.{false}
use mathlib.Core.List.{List}
use native.Mathlib.Omega.{arith}
use native.Mathlib.Decide.{ℕ_discrete}
use lib.ListN.{length, get_or, set, length-set}
use lib.Seq.{get_or-set_same, get_or-set_other}
use Rattle.word.specs.Layout.{flag_of}
use Rattle.sheet.specs.Sheets.{code_of, code_words_of, r_of, table_of, cell_of}
use Rattle.demands.specs.Stays.{StackWord, NumberCell, Open, Named, SameOutside}
use Rattle.demands.proofs.Passed.{Passed}
use Rattle.demands.proofs.Holds.{Kept}

module _ (core sheet : List ℕ) (ok : Passed core sheet) where
  number_low : {m : ℕ} (n : NumberCell sheet m) → n.cell < table_of sheet
  number_low n = ok.cell n.cell 2 n.number

  pub open_in : {m : ℕ} → Open core sheet m → m < length core
  open_in (inl n) = omega (arith, n.here, number_low n, ok.table_in)
  open_in (inr a) = omega (arith, a.below, (ok.arrays a.cell a.array).area)

  pub open_stack : {m : ℕ} → Open core sheet m → StackWord sheet m → ⊥
  open_stack {m} (inl n) s = ok.table_stack m (omega (arith, n.here)) (omega (arith, n.here, number_low n)) (omega (arith, s.above)) (omega (arith, s.within))
  open_stack {m} (inr a) s = (ok.arrays a.cell a.array).off_stack m a.from a.below (omega (arith, s.above)) (omega (arith, s.within))

  -- A word of the code is not named.
  pub code_unnamed : (m : ℕ) → code_of sheet ≤ m → m < code_of sheet + code_words_of sheet → Named core sheet m → ⊥
  code_unnamed m p q (inl s) = ok.stack_code m (omega (arith, s.above)) (omega (arith, s.within)) p q
  code_unnamed m p q (inr (inl n)) = ok.table_code m (omega (arith, n.here)) (omega (arith, n.here, number_low n)) p q
  code_unnamed m p q (inr (inr a)) = (ok.arrays a.cell a.array).off_code m a.from a.below p q

  -- Nor is an array cell.
  pub array_unnamed : (c : ℕ) → cell_of sheet c ≡ 4 → Named core sheet (64 * r_of sheet + c) → ⊥
  array_unnamed c e (inl s) =
      ok.table_stack (64 * r_of sheet + c) (omega arith) (omega (arith, ok.cell c 3 e)) (omega (arith, s.above)) (omega (arith, s.within))
  array_unnamed c e (inr (inl n)) =
      let same : c ≡ n.cell = omega (arith, n.here) in
      let four : cell_of sheet n.cell ≡ 4 = subst (λ (k : ℕ). cell_of sheet k ≡ 4) same e in
      omega (arith, four, n.number)
  array_unnamed c e (inr (inr a)) =
      (ok.arrays a.cell a.array).off_table (64 * r_of sheet + c) a.from a.below (omega arith) (omega (arith, ok.cell c 3 e))

  module _ (l : List ℕ) (k : Kept core sheet l) (m w : ℕ) where
    size_set : length (set l m w) ≡ length core
    size_set = length-set l m w ∙ k.size

    same_set : Named core sheet m → SameOutside core sheet (set l m w) core
    same_set h j n = get_or-set_other l m j w 0 (λ e. n (subst (λ (i : ℕ). Named core sheet i) (sym e) h)) ∙ k.same j n

    pub keep_stack : StackWord sheet m → Kept core sheet (set l m w)
    keep_stack h =
        record {
          size = size_set;
          same = same_set (inl h);
          plain = λ j o. ap flag_of (get_or-set_other l m j w 0 (λ e. open_stack (subst (λ (i : ℕ). Open core sheet i) e o) h)) ∙ k.plain j o;
        }

    stored : (j : ℕ) → Dec (j ≡ m) → m < length l → flag_of w ≡ false → Open core sheet j → flag_of (get_or (set l m w) j 0) ≡ false
    stored j (yes e) i f o = subst (λ (i : ℕ). flag_of (get_or (set l m w) i 0) ≡ false) (sym e) (ap flag_of (get_or-set_same l m w 0 i) ∙ f)
    stored j (no e) i f o = ap flag_of (get_or-set_other l m j w 0 e) ∙ k.plain j o

    pub keep_open : Open core sheet m → flag_of w ≡ false → Kept core sheet (set l m w)
    keep_open h f =
        record {
          size = size_set;
          same = same_set (inr h);
          plain = λ j o. stored j (ℕ_discrete j m) (omega (arith, k.size, open_in h)) f o;
        }
