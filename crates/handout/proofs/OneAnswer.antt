-- Any two permitted answers of a call are equal, and so is what they leave behind its references.
use Prim.Native.Nat.{ℕ, zero, suc}
use mathlib.Core.Path.{◌≡◌, refl}
use mathlib.Core.List.{List}
use denote.Ref.{Bor}
use Rattle.std.specs.declared.result.Result.{Result}
use Rattle.std.specs.declared.result.Result.TheVariants.{Ok, Err}
use Rattle.word.specs.declared.cores.CoreError.TheVariants.{Length, Word}
use Rattle.word.proofs.Sole.{sole, sole_said}
use Rattle.handout.specs.declared.Stretch.{Stretch}
use Rattle.handout.specs.declared.HandOutError.{HandOutError}
use Rattle.handout.specs.declared.HandOutError.TheVariants.{Core, Cell, Array}
use Rattle.handout.specs.HandOut.{Handed, handed_by}
use Rattle.handout.proofs.Agree.{sole_part}
use Rattle.handout.proofs.hand_out_number.Reads as hand_out_number
use Rattle.handout.proofs.hand_out_bounds.Reads as hand_out_bounds
use Rattle.handout.proofs.stretch_at.Reads as stretch_at
use Rattle.handout.proofs.hand_out.Reads as hand_out

-- Each answer comes back from its number and its place, so the saying is one to one.
numbered : ℕ → Stretch → Result Stretch HandOutError
numbered zero s = Ok s
numbered (suc zero) s = Err (Core Length)
numbered (suc (suc zero)) s = Err (Core Word)
numbered (suc (suc (suc zero))) s = Err Cell
numbered (suc (suc (suc (suc n)))) s = Err Array

handing : Handed → Result Stretch HandOutError
handing h = numbered h.number (record { start = h.start; count = h.count })

handing_back : (r : Result Stretch HandOutError) → handing (handed_by r) ≡ r
unfolding handing numbered
handing_back (Ok s) = refl
handing_back (Err (Core Length)) = refl
handing_back (Err (Core Word)) = refl
handing_back (Err Cell) = refl
handing_back (Err Array) = refl

pub hand_out_number_sole : (κs : _) (a : _) (r r' : ℕ) (e e' : _) → hand_out_number.Learnt κs a r e → hand_out_number.Learnt κs a r' e' → r ≡ r'
hand_out_number_sole κs a r r' e e' p q = sole p q

pub stretch_at_sole : (κs : _) (a : _) (r r' : _) (e e' : _) → stretch_at.Learnt κs a r e → stretch_at.Learnt κs a r' e' → r ≡ r'
stretch_at_sole κs a r r' e e' p q = sole_said handed_by handing handing_back p q

pub hand_out_bounds_sole : (κs : _) (a : _) (r r' : Stretch) (e e' : _) → hand_out_bounds.Learnt κs a r e → hand_out_bounds.Learnt κs a r' e' → r ≡ r'
hand_out_bounds_sole κs a r r' e e' p q = same (sole p.0 q.0) (sole p.1 q.1)
  where
    same : {s s' n n' : ℕ} → s ≡ s' → n ≡ n' → ◌≡◌ {A = Stretch} (record { start = s; count = n }) (record { start = s'; count = n' })
    same h k = rw (h, k)

pub hand_out_sole : (κs : _) (a : _) (r r' : Bor (List ℕ)) (e e' : _) → hand_out.Learnt κs a r e → hand_out.Learnt κs a r' e' → (r.now ≡ r'.now) × (r.ref_ptr ≡ r'.ref_ptr)
hand_out_sole κs a r r' e e' p q = sole_part p q
