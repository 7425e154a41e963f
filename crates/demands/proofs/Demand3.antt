-- Demand 3 holds.
use Prim.Native.Nat.{ℕ, ◌+◌, ◌-◌, ◌<◌, ◌≤◌}
use mathlib.Core.Path.{◌≡◌, refl, sym, ◌∙◌, subst}
use mathlib.Core.Logic.{inl, inr}
use mathlib.Core.Bool.{Bool, true, false≢true}
use mathlib.Core.List.{List, [], ◌∷◌}
use native.Mathlib.Omega.{arith}
use native.Mathlib.Decide.{ℕ_discrete}
use lib.ListN.{length, get_or}
use Rattle.word.specs.Core.{length_fits, words_fit}
use Rattle.word.specs.Layout.{array_in}
use Rattle.machine.specs.States.{State}
use Rattle.machine.specs.Steps.{Ended, next, communicated, stopped, execute_of, refusal_of}
use Rattle.machine.specs.Runs.{Run}
use Rattle.syllable.specs.Decoding.{decode_of}
use Rattle.syllable.specs.Positions.{syllable_of}
use Rattle.laws.proofs.Running.{passed_run}
use Rattle.sheet.specs.Sheets.{s_of, cell_of}
use Rattle.inspector.specs.Areas.{astray}
use Rattle.inspector.specs.Cells.{plain_words, array_fits, unfit}
use Rattle.inspector.specs.Scan.{Item, Shape, shape_at, breaks_at}
use Rattle.inspector.specs.Targets.{misses_target}
use Rattle.inspector.specs.Verdicts.{given, verdict_of}
use Rattle.machine.specs.Branches.{landing_of}
use Rattle.word.specs.Choices.{if◌then◌otherwise◌}
use Rattle.demands.specs.Stays.{start_of, Stacked, Next, Stays}
use Rattle.demands.specs.Leaves.{Leaves}
use Rattle.demands.specs.Sample.{sample_core, sample_sheet}
use Rattle.demands.specs.Demand3.{Demand3}
use Rattle.demands.proofs.Exact.{zero_kept, kept_zero, number_blames, blames_number}
use Rattle.demands.proofs.Passed.{Passed}
use Rattle.demands.proofs.Answers.{passed}
use Rattle.demands.proofs.Holds.{Fits, is, plain, points, Under, Register, full, empty}
use Rattle.demands.proofs.Cores.{code_unnamed}
use Rattle.demands.proofs.Stacks.{under_height}
use Rattle.demands.proofs.Words.{small_off}
use Rattle.demands.proofs.Ends.{Inv, Good}
use Rattle.demands.proofs.Segments.{from_code, below_code, execute_good, reached}
use Rattle.demands.proofs.Checked.{reached_passes, start_passes, run_leaves}
use Rattle.inspector.specs.Records.{sheet_fits, record_good}

module _ (core sheet : List ℕ) where
  -- ---- the stack

  stacked : {x : Item} {w : ℕ} → Fits core sheet x w → Stacked core sheet w
  stacked (is h) = inl (small_off _ h)
  stacked (plain e) = inl e
  stacked (points q) = inr q

  in_register : {full? : Bool} {w : ℕ} {xs ys : Shape} → Register core sheet full? w xs ys → full? ≡ true → Stacked core sheet w
  in_register (full f) e = stacked f
  in_register empty e = absurd (false≢true e)

  register_height : {full? : Bool} {w : ℕ} {xs ys : Shape} → Register core sheet full? w xs ys → length ys ≤ length xs
  register_height (full f) = omega arith
  register_height empty = omega arith

  in_core_is : (l : List ℕ) (s : ℕ) (xs : Shape) → Under core sheet l s xs → (m : ℕ) → s_of sheet < m → m ≤ s → Stacked core sheet (get_or l m 0)
  in_core_is l s [] e m h k = absurd (omega arith)
  in_core_is l s (x ∷ xs) v m h k = by (ℕ_discrete m s) (λ j. in_core_is l (s - 1) xs v.2 m h j)
    where
      by : Dec (m ≡ s) → (m ≤ s - 1 → Stacked core sheet (get_or l m 0)) → Stacked core sheet (get_or l m 0)
      by (yes e) f = subst (λ (i : ℕ). Stacked core sheet (get_or l i 0)) (sym e) (stacked v.1)
      by (no e) f = f (omega arith)

  -- ---- every state reached

  module _ (ok : Passed core sheet) (u : State) (v : Inv core sheet u) where
    ended : (e : Ended) → Good core sheet e → Next core sheet u e
    ended (next w) g = record { size = g.at.kept.size ∙ sym v.at.kept.size; only = λ m n. g.at.kept.same m n ∙ sym (v.at.kept.same m n); plain = g.at.kept.plain }
    ended (communicated w) g = record { size = g.size ∙ sym v.at.kept.size; only = λ m n. g.same m n ∙ sym (v.at.kept.same m n); plain = g.plain }
    ended (stopped n) g = g

    height : u.regs.s ≡ s_of sheet + length v.at.rest.low
    height = under_height core sheet u.core u.regs.s v.at.rest.low v.at.rest.under

    stays : refusal_of u.core u.regs ≡ 0 → Stays core sheet u
    stays c =
        record {
          checks = c;
          from = from_code core sheet ok u v;
          below = below_code core sheet ok u v;
          code = λ m p q. v.at.kept.same m (code_unnamed core sheet ok m p q);
          size = v.at.kept.size;
          outside = v.at.kept.same;
          plain = v.at.kept.plain;
          low = omega (arith, height);
          high = omega (arith, height, register_height v.at.rest.top, register_height v.at.top, v.at.room);
          stack = in_core_is u.core u.regs.s v.at.rest.low v.at.rest.under;
          b = in_register v.at.rest.top;
          a = in_register v.at.top;
          step = ended (execute_of u) (execute_good core sheet ok u v);
        }

-- ---- the sample, computed

sample_passes : verdict_of sample_core (sample_sheet 2) ≡ given 0 0
unfolding verdict_of length_fits words_fit sheet_fits record_good astray unfit cell_of array_fits array_in plain_words breaks_at shape_at misses_target landing_of if◌then◌otherwise◌ decode_of syllable_of
sample_passes = refl

sample_refused : verdict_of sample_core (sample_sheet 1) ≡ given 34 2
unfolding verdict_of length_fits words_fit sheet_fits record_good astray unfit cell_of array_fits array_in plain_words breaks_at shape_at misses_target landing_of if◌then◌otherwise◌ decode_of syllable_of
sample_refused = refl

pub demand3 : Demand3
demand3 =
    record {
      stays = λ core sheet e n u r. stays core sheet (passed core sheet e) u (reached core sheet (passed core sheet e) n u r) (reached_passes core sheet e n u r);
      leaves = λ core sheet e budget h.
          subst (λ (r : Run). Leaves core sheet r.stop r.core) (sym (passed_run core (start_of core sheet).regs budget (start_passes core sheet e) h)) (run_leaves core sheet e budget);
      zero_kept = zero_kept;
      kept_zero = kept_zero;
      number_blames = number_blames;
      blames_number = blames_number;
      passes = sample_passes;
      refuses = sample_refused;
    }
