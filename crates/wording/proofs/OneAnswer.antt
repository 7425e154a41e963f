-- Any two permitted answers of a call are equal, and so is what they leave behind its references.
use mathlib.Core.Path.{◌≡◌, refl}
use Rattle.std.specs.Prelude.{ℕ, eqb}
use Rattle.word.specs.Choices.{if◌then◌otherwise◌}
use Rattle.word.proofs.Sole.{sole, sole_said}
use Rattle.wording.specs.Results.{status_number}
use Rattle.wording.specs.declared.results.Status.{Status}
use Rattle.wording.specs.declared.results.Status.TheVariants.{Done, Refused, Undone, Short}
use Rattle.wording.proofs.commands.command_of.Reads as command_of
use Rattle.wording.proofs.names.name_of.Reads as name_of
use Rattle.wording.proofs.numbers.number_of.Reads as number_of
use Rattle.wording.proofs.places.kind_at.Reads as kind_at
use Rattle.wording.proofs.places.place_of.Reads as place_of
use Rattle.wording.proofs.results.communicated.Reads as communicated
use Rattle.wording.proofs.results.status_of.Reads as status_of

pub command_of_sole : (κs : _) (a : _) (r r' : _) (e e' : _) → command_of.Learnt κs a r e → command_of.Learnt κs a r' e' → r ≡ r'
command_of_sole κs a r r' e e' p q = sole p q

pub name_of_sole : (κs : _) (a : _) (r r' : _) (e e' : _) → name_of.Learnt κs a r e → name_of.Learnt κs a r' e' → r ≡ r'
name_of_sole κs a r r' e e' p q = sole p q

pub number_of_sole : (κs : _) (a : _) (r r' : _) (e e' : _) → number_of.Learnt κs a r e → number_of.Learnt κs a r' e' → r ≡ r'
number_of_sole κs a r r' e e' p q = sole p q

pub place_of_sole : (κs : _) (a : _) (r r' : _) (e e' : _) → place_of.Learnt κs a r e → place_of.Learnt κs a r' e' → r ≡ r'
place_of_sole κs a r r' e e' p q = sole p q

pub kind_at_sole : (κs : _) (a : _) (r r' : _) (e e' : _) → kind_at.Learnt κs a r e → kind_at.Learnt κs a r' e' → r ≡ r'
kind_at_sole κs a r r' e e' p q = sole p q

pub communicated_sole : (κs : _) (a : _) (r r' : _) (e e' : _) → communicated.Learnt κs a r e → communicated.Learnt κs a r' e' → r ≡ r'
communicated_sole κs a r r' e e' p q = sole p q

-- The status with a number, so the numbers tell them apart.
status_by : ℕ → Status
status_by n = if eqb n 0 then Done otherwise if eqb n 1 then Refused otherwise if eqb n 2 then Undone otherwise Short

status_back : (s : Status) → status_by (status_number s) ≡ s
unfolding status_by if◌then◌otherwise◌
status_back Done = refl
status_back Refused = refl
status_back Undone = refl
status_back Short = refl

pub status_of_sole : (κs : _) (a : _) (r r' : _) (e e' : _) → status_of.Learnt κs a r e → status_of.Learnt κs a r' e' → r ≡ r'
status_of_sole κs a r r' e e' p q = sole_said status_number status_by status_back p q
