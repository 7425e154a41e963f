-- Any two permitted answers of a call are equal, and so is what they leave behind its references.
use Prim.Native.Nat.{ℕ}
use mathlib.Core.Path.{◌≡◌, ap}
use Rattle.word.proofs.Sole.{sole}
use Rattle.inspector.specs.Verdicts.{Verdict}
use Rattle.cabinet.specs.Crossings.{StepBytes, RunBytes}
use Rattle.handout.specs.HandOut.{Handed}
use Rattle.cabinet.specs.Posts.{PostBytes}
use Rattle.cabinet.proofs.fifty_five_load.Reads as load
use Rattle.cabinet.proofs.fifty_five_step.Reads as step
use Rattle.cabinet.proofs.fifty_five_run.Reads as run
use Rattle.cabinet.proofs.fifty_five_hand_out.Reads as hand_out
use Rattle.cabinet.proofs.fifty_five_inspect.Reads as inspect
use Rattle.cabinet.proofs.fifty_five_post.Reads as post

-- The core.
pub fifty_five_load_sole : (κs : _) (a : _) (r r' : ℕ) (e e' : _) → load.Learnt κs a r e → load.Learnt κs a r' e'
    → (r ≡ r') × (e.1.0.now ≡ e'.1.0.now)
fifty_five_load_sole κs a r r' e e' p q = (sole p.number q.number, sole p.core q.core)

-- The core and the register set.
pub fifty_five_step_sole : (κs : _) (a : _) (r r' : ℕ) (e e' : _) → step.Learnt κs a r e → step.Learnt κs a r' e'
    → (r ≡ r') × (e.0.now ≡ e'.0.now) × (e.1.0.now ≡ e'.1.0.now)
fifty_five_step_sole κs a r r' e e' p q =
    (ap (λ (x : StepBytes). x.number) (sole p q), ap (λ (x : StepBytes). x.core) (sole p q), ap (λ (x : StepBytes). x.regs) (sole p q))

-- The core, the register set and the count.
pub fifty_five_run_sole : (κs : _) (a : _) (r r' : ℕ) (e e' : _) → run.Learnt κs a r e → run.Learnt κs a r' e'
    → (r ≡ r') × (e.0.now ≡ e'.0.now) × (e.1.0.now ≡ e'.1.0.now) × (e.1.1.1.0.now ≡ e'.1.1.1.0.now)
fifty_five_run_sole κs a r r' e e' p q =
    (ap (λ (x : RunBytes). x.left.number) (sole p q), ap (λ (x : RunBytes). x.left.core) (sole p q), ap (λ (x : RunBytes). x.left.regs) (sole p q), ap (λ (x : RunBytes). x.completed) (sole p q))

-- The first word and how many.
pub fifty_five_hand_out_sole : (κs : _) (a : _) (r r' : ℕ) (e e' : _) → hand_out.Learnt κs a r e → hand_out.Learnt κs a r' e'
    → (r ≡ r') × (e.1.1.1.0.now ≡ e'.1.1.1.0.now) × (e.1.1.1.1.0.now ≡ e'.1.1.1.1.0.now)
fifty_five_hand_out_sole κs a r r' e e' p q =
    (ap (λ (x : Handed). x.number) (sole p q), ap (λ (x : Handed). x.start) (sole p q), ap (λ (x : Handed). x.count) (sole p q))

-- The place.
pub fifty_five_inspect_sole : (κs : _) (a : _) (r r' : ℕ) (e e' : _) → inspect.Learnt κs a r e → inspect.Learnt κs a r' e'
    → (r ≡ r') × (e.1.1.0.now ≡ e'.1.1.0.now)
fifty_five_inspect_sole κs a r r' e e' p q =
    (ap (λ (x : Verdict). x.number) (sole p q), ap (λ (x : Verdict). x.place) (sole p q))

-- The core, the register set, the place, the stop and the count.
pub fifty_five_post_sole : (κs : _) (a : _) (r r' : ℕ) (e e' : _) → post.Learnt κs a r e → post.Learnt κs a r' e'
    → (r ≡ r') × (e.0.now ≡ e'.0.now) × (e.1.1.1.0.now ≡ e'.1.1.1.0.now) × (e.1.1.1.1.0.now ≡ e'.1.1.1.1.0.now) × (e.1.1.1.1.1.0.now ≡ e'.1.1.1.1.1.0.now) × (e.1.1.1.1.1.1.0.now ≡ e'.1.1.1.1.1.1.0.now)
fifty_five_post_sole κs a r r' e e' p q =
    let same = sole p.same q.same in
    (ap (λ (x : PostBytes). x.number) same, ap (λ (x : PostBytes). x.core) same, ap (λ (x : PostBytes). x.regs) same, ap (λ (x : PostBytes). x.place) same, ap (λ (x : PostBytes). x.stop) same, ap (λ (x : PostBytes). x.completed) same)
