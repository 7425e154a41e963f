-- Any two permitted answers of a call are equal, and so is what they leave behind its references.
use Prim.Native.Nat.{ℕ}
use mathlib.Core.Path.{◌≡◌, refl, sym, ◌∙◌, ap}
use mathlib.Core.List.{List}
use lib.Dec.{eqb}
use Rattle.std.specs.declared.result.Result.{Result}
use Rattle.std.specs.declared.result.Result.TheVariants.{Ok, Err}
use Rattle.std.specs.Result.{result_or}
use Rattle.word.proofs.Sole.{sole}
use Rattle.word.specs.Choices.{if◌then◌otherwise◌}
use Rattle.word.specs.declared.cores.CoreError.TheVariants.{Length as Count, Word}
use Rattle.machine.specs.declared.outcome.Ran.{Ran}
use Rattle.machine.specs.declared.outcome.Refusal.{Refusal}
use Rattle.machine.specs.Runs.{Run}
use Rattle.machine.specs.States.{no_registers}
use Rattle.machine.proofs.OneAnswer.{ran_sole}
use Rattle.inspector.specs.declared.verdict.Broken.TheVariants.{Core, Length, Record, Area, Cell, Syllable, Target}
use Rattle.post.specs.declared.PostError.{PostError}
use Rattle.post.specs.declared.PostError.TheVariants.{Broken, Budget}
use Rattle.post.specs.Posting.{Posting, posted_of}
use Rattle.post.proofs.Postings.{nonzero}
use Rattle.post.proofs.post.Reads as post
use Rattle.post.proofs.PostError.place.Reads as place

-- A refusal comes back from its number and place, so that no two have the same.
refusal : Posting → PostError
refusal p =
    if eqb p.number 1 then Broken (Core Count)
    otherwise if eqb p.number 2 then Broken (Core Word)
    otherwise if eqb p.number 30 then Broken Length
    otherwise if eqb p.number 31 then Broken (Record p.place)
    otherwise if eqb p.number 32 then Broken (Area p.place)
    otherwise if eqb p.number 33 then Broken (Cell p.place)
    otherwise if eqb p.number 34 then Broken (Syllable p.place)
    otherwise if eqb p.number 35 then Broken (Target p.place)
    otherwise Budget

refusal_back : (core : List ℕ) (e : PostError) → refusal (posted_of (Err e) core) ≡ e
unfolding refusal if◌then◌otherwise◌
refusal_back core (Broken (Core Count)) = refl
refusal_back core (Broken (Core Word)) = refl
refusal_back core (Broken Length) = refl
refusal_back core (Broken (Record i)) = refl
refusal_back core (Broken (Area i)) = refl
refusal_back core (Broken (Cell c)) = refl
refusal_back core (Broken (Syllable i)) = refl
refusal_back core (Broken (Target i)) = refl
refusal_back core Budget = refl

-- The run of a posting.
abbrev run_in : Posting → Run
run_in p = record { stop = p.stop; completed = p.completed; core = p.core; regs = p.regs }

posted_sole : (r r' : Result Ran PostError) (core core' : List ℕ) → posted_of r core ≡ posted_of r' core' → (r ≡ r') × (core ≡ core')
posted_sole (Ok x) (Ok x') core core' h =
    let same = ran_sole no_registers {r = Ok x} {r' = Ok x'} (ap run_in h) refl in
    (ap (λ (r : Result Ran Refusal). result_or r (Err Budget)) same.0, same.1)
posted_sole (Ok x) (Err e) core core' h = absurd (nonzero e (sym (ap (λ (p : Posting). p.number) h)))
posted_sole (Err e) (Ok x) core core' h = absurd (nonzero e (ap (λ (p : Posting). p.number) h))
posted_sole (Err e) (Err e') core core' h =
    (ap {B = Result Ran PostError} Err (sym (refusal_back core e) ∙ ap refusal h ∙ refusal_back core' e'), ap (λ (p : Posting). p.core) h)

-- The core.
pub post_sole : (κs : _) (a : _) (r r' : Result Ran PostError) (e e' : _) → post.Learnt κs a r e → post.Learnt κs a r' e' → (r ≡ r') × (e.0.now ≡ e'.0.now)
post_sole κs a r r' e e' p q = posted_sole r r' e.0.now e'.0.now (sole p.same q.same)

pub place_sole : (κs : _) (a : _) (r r' : ℕ) (e e' : _) → place.Learnt κs a r e → place.Learnt κs a r' e' → r ≡ r'
place_sole κs a r r' e e' p q = sole p q
