-- Any two permitted answers of a call are equal, and so is what they leave behind its references.
use Prim.Native.Nat.{ℕ, zero, suc}
use mathlib.Core.Path.{◌≡◌, refl}
use Rattle.word.specs.Numbers.{OrNumber, the, given_back}
use Rattle.word.proofs.Sole.{sole, sole_said}
use Rattle.trial.specs.declared.trials.Sum.{Sum}
use Rattle.std.specs.declared.result.Result.{Result}
use Rattle.std.specs.declared.result.Result.TheVariants.{Ok, Err}
use Rattle.tape.specs.declared.errors.ReadError.{ReadError}
use Rattle.tape.specs.declared.errors.ReadError.TheVariants.{Records, Length}
use Rattle.trial.specs.Trials.{says_trial}
use Rattle.trial.proofs.trials.trial.Reads as trial
use Rattle.trial.proofs.trials.run_from_start.Reads as run_from_start
use Rattle.trial.proofs.lines.line.Reads as line

-- Each answer comes back from what its cases say, so the saying is one to one.
refused : ℕ → Result Sum ReadError
refused zero = Err Length
refused (suc zero) = Err Length
refused (suc (suc n)) = Err Records

outcome : OrNumber Sum → Result Sum ReadError
outcome (the x) = Ok x
outcome (given_back n) = refused n

outcome_back : (r : Result Sum ReadError) → outcome (says_trial r) ≡ r
unfolding outcome refused
outcome_back (Ok x) = refl
outcome_back (Err Records) = refl
outcome_back (Err Length) = refl

pub trial_sole : (κs : _) (a : _) (r r' : _) (e e' : _) → trial.Learnt κs a r e → trial.Learnt κs a r' e' → r ≡ r'
trial_sole κs a r r' e e' p q = sole_said says_trial outcome outcome_back p q

pub run_from_start_sole : (κs : _) (a : _) (r r' : _) (e e' : _) → run_from_start.Learnt κs a r e → run_from_start.Learnt κs a r' e' → (r ≡ r') × (e.0.now ≡ e'.0.now)
run_from_start_sole κs a r r' e e' p q = (sole p.sum q.sum, sole p.core q.core)

pub line_sole : (κs : _) (a : _) (r r' : _) (e e' : _) → line.Learnt κs a r e → line.Learnt κs a r' e' → (r ≡ r') × (e.1.0.now ≡ e'.1.0.now)
line_sole κs a r r' e e' p q = (sole p.0.next q.0.next, sole p.0.room q.0.room)
