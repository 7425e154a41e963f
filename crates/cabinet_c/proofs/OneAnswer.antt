-- Any two permitted answers of a call from C are equal: its contract is that of the call of its name in `cabinet`, and so is the theorem.
use Prim.Native.Nat.{ℕ}
use mathlib.Core.Path.{◌≡◌}
use Rattle.cabinet_c.proofs.fifty_five_load.Reads as load
use Rattle.cabinet_c.proofs.fifty_five_step.Reads as step
use Rattle.cabinet_c.proofs.fifty_five_run.Reads as run
use Rattle.cabinet_c.proofs.fifty_five_hand_out.Reads as hand_out
use Rattle.cabinet_c.proofs.fifty_five_inspect.Reads as inspect
use Rattle.cabinet_c.proofs.fifty_five_post.Reads as post
use Rattle.cabinet.proofs.OneAnswer as cabinet

-- The core.
pub fifty_five_load_sole : (κs : _) (a : _) (r r' : ℕ) (e e' : _) → load.Learnt κs a r e → load.Learnt κs a r' e'
    → (r ≡ r') × (e.1.0.now ≡ e'.1.0.now)
fifty_five_load_sole = cabinet.fifty_five_load_sole

-- The core and the register set.
pub fifty_five_step_sole : (κs : _) (a : _) (r r' : ℕ) (e e' : _) → step.Learnt κs a r e → step.Learnt κs a r' e'
    → (r ≡ r') × (e.0.now ≡ e'.0.now) × (e.1.0.now ≡ e'.1.0.now)
fifty_five_step_sole = cabinet.fifty_five_step_sole

-- The core, the register set and the count.
pub fifty_five_run_sole : (κs : _) (a : _) (r r' : ℕ) (e e' : _) → run.Learnt κs a r e → run.Learnt κs a r' e'
    → (r ≡ r') × (e.0.now ≡ e'.0.now) × (e.1.0.now ≡ e'.1.0.now) × (e.1.1.1.0.now ≡ e'.1.1.1.0.now)
fifty_five_run_sole = cabinet.fifty_five_run_sole

-- The first word and how many.
pub fifty_five_hand_out_sole : (κs : _) (a : _) (r r' : ℕ) (e e' : _) → hand_out.Learnt κs a r e → hand_out.Learnt κs a r' e'
    → (r ≡ r') × (e.1.1.1.0.now ≡ e'.1.1.1.0.now) × (e.1.1.1.1.0.now ≡ e'.1.1.1.1.0.now)
fifty_five_hand_out_sole = cabinet.fifty_five_hand_out_sole

-- The place.
pub fifty_five_inspect_sole : (κs : _) (a : _) (r r' : ℕ) (e e' : _) → inspect.Learnt κs a r e → inspect.Learnt κs a r' e'
    → (r ≡ r') × (e.1.1.0.now ≡ e'.1.1.0.now)
fifty_five_inspect_sole = cabinet.fifty_five_inspect_sole

-- The core, the register set, the place, the stop and the count.
pub fifty_five_post_sole : (κs : _) (a : _) (r r' : ℕ) (e e' : _) → post.Learnt κs a r e → post.Learnt κs a r' e'
    → (r ≡ r') × (e.0.now ≡ e'.0.now) × (e.1.1.1.0.now ≡ e'.1.1.1.0.now) × (e.1.1.1.1.0.now ≡ e'.1.1.1.1.0.now) × (e.1.1.1.1.1.0.now ≡ e'.1.1.1.1.1.0.now) × (e.1.1.1.1.1.1.0.now ≡ e'.1.1.1.1.1.1.0.now)
fifty_five_post_sole = cabinet.fifty_five_post_sole
