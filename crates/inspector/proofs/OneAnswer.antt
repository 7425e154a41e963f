-- Any two permitted answers of a call are equal, and so is what they leave behind its references.
use Prim.Native.Nat.{ℕ}
use mathlib.Core.Path.{◌≡◌, refl}
use mathlib.Core.Bool.{Bool, true, false}
use lib.Dec.{eqb}
use Rattle.std.specs.declared.result.Result.{Result}
use Rattle.std.specs.declared.result.Result.TheVariants.{Ok, Err}
use Rattle.inspector.specs.declared.verdict.Broken.{Broken}
use Rattle.inspector.specs.declared.verdict.Broken.TheVariants.{Core, Length, Record, Area, Cell, Syllable, Target}
use Rattle.inspector.specs.Verdicts.{Verdict, verdict_by}
use Rattle.inspector.proofs.inspect.Reads as inspect
use Rattle.inspector.proofs.verdict.Broken.place.Reads as place
use Rattle.word.specs.declared.cores.CoreError.TheVariants.{Length as NoCore, Word}
use Rattle.word.proofs.Sole.{sole, sole_said}

abbrev either : Bool → Result (Unit {0}) Broken → Result (Unit {0}) Broken → Result (Unit {0}) Broken
either b x y = elim b [ true ↦ x | false ↦ y ]

-- The answer with a number and a place.
abbrev answer_at : ℕ → ℕ → Result (Unit {0}) Broken
answer_at n p =
    either (eqb n 0) (Ok tt)
    (either (eqb n 1) (Err (Core NoCore))
    (either (eqb n 2) (Err (Core Word))
    (either (eqb n 30) (Err Length)
    (either (eqb n 31) (Err (Record p))
    (either (eqb n 32) (Err (Area p))
    (either (eqb n 33) (Err (Cell p))
    (either (eqb n 34) (Err (Syllable p)) (Err (Target p)))))))))

comes : (r : Result (Unit {0}) Broken) → answer_at (verdict_by r).number (verdict_by r).place ≡ r
comes (Ok x) = refl
comes (Err (Core NoCore)) = refl
comes (Err (Core Word)) = refl
comes (Err Length) = refl
comes (Err (Record i)) = refl
comes (Err (Area i)) = refl
comes (Err (Cell c)) = refl
comes (Err (Syllable i)) = refl
comes (Err (Target i)) = refl

pub inspect_sole : (κs : _) (a : _) (r r' : Result (Unit {0}) Broken) (e e' : _) → inspect.Learnt κs a r e → inspect.Learnt κs a r' e' → r ≡ r'
inspect_sole κs a r r' e e' p q = sole_said verdict_by (λ (v : Verdict). answer_at v.number v.place) comes p q

pub place_sole : (κs : _) (a : _) (r r' : ℕ) (e e' : _) → place.Learnt κs a r e → place.Learnt κs a r' e' → r ≡ r'
place_sole κs a r r' e e' p q = sole p q
