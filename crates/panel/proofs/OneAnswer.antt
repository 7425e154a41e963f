-- Any two permitted answers of a call are equal, and so is what they leave behind its references.
use Prim.Native.Nat.{ℕ}
use mathlib.Core.Path.{◌≡◌, refl, sym, ◌∙◌, ap}
use mathlib.Core.List.{List}
use Rattle.std.specs.declared.result.Result.{Result}
use Rattle.std.specs.declared.result.Result.TheVariants.{Ok, Err}
use Rattle.machine.specs.declared.outcome.Answer.{Answer}
use Rattle.machine.specs.declared.outcome.End.{End}
use Rattle.machine.specs.declared.outcome.Refusal.{Refusal}
use Rattle.machine.specs.declared.outcome.Registers.{Registers}
use Rattle.machine.specs.Steps.{Stepped, answered}
use Rattle.machine.proofs.OneAnswer.{answered_sole}
use Rattle.word.proofs.Sole.{sole}
use Rattle.panel.specs.Panels.{moved_by}
use Rattle.panel.proofs.step_panel.Reads as panel

-- The panel's answer as the step's, with the registers that it moved, and back.
abbrev stepped : Registers → Result End Refusal → Result Answer Refusal
stepped g (Ok n) = Ok (record { end = n; regs = g })
stepped g (Err n) = Err n

abbrev ended : Result Answer Refusal → Result End Refusal
ended (Ok a) = Ok a.end
ended (Err n) = Err n

ended_back : (g : Registers) (r : Result End Refusal) → ended (stepped g r) ≡ r
ended_back g (Ok n) = refl
ended_back g (Err n) = refl

moved_answered : (r : Result End Refusal) (g : Registers) (core : List ℕ) → moved_by r g core ≡ answered g (stepped g r) core
moved_answered (Ok n) g core = refl
moved_answered (Err n) g core = refl

moved_regs : (r : Result End Refusal) (g : Registers) (core : List ℕ) → (moved_by r g core).regs ≡ g
moved_regs (Ok n) g core = refl
moved_regs (Err n) g core = refl

moved_sole : (r r' : Result End Refusal) (g g' : Registers) {core core' : List ℕ} {x : Stepped} → moved_by r g core ≡ x → moved_by r' g' core' ≡ x → (r ≡ r') × (g ≡ g') × (core ≡ core')
moved_sole r r' g g' {core} {core'} {x} p q =
    let e : g ≡ g' = sym (moved_regs r g core) ∙ ap (λ (s : Stepped). s.regs) (sole p q) ∙ moved_regs r' g' core' in
    let both : (stepped g r ≡ stepped g r') × (core ≡ core') = answered_sole _ (sym (moved_answered r g core) ∙ p) (rw (e, ← moved_answered r' g' core') q) in
    (sym (ended_back g r) ∙ ap ended both.0 ∙ ended_back g r', e, both.1)

-- The answer, the registers behind their reference, and the core.
pub step_panel_sole : (κs : _) (a : _) (n n' : _) (e e' : _) → panel.Learnt κs a n e → panel.Learnt κs a n' e'
    → (n ≡ n') × (e.1.0.now ≡ e'.1.0.now) × (e.0.now ≡ e'.0.now)
step_panel_sole κs a n n' e e' p q = moved_sole n n' _ _ p q
