-- Any two permitted answers of a call are equal, and so is what they leave behind its references.
use mathlib.Core.Path.{◌≡◌, refl, sym, ◌∙◌, ap, Cosingl, contract'}
use Rattle.word.proofs.Sole.{sole}
use Rattle.syllable.specs.declared.tables.Table.{Table}
use Rattle.syllable.specs.Numbers.{operator_numbers}
use Rattle.syllable.proofs.tables.Table.new.Reads as new
use Rattle.syllable.proofs.tables.Table.number_of.Reads as number_of
use Rattle.syllable.proofs.tables.Table.read.Reads as read
use Rattle.syllable.proofs.tables.numbers.Reads as numbers
use Rattle.syllable.proofs.tables.number.Reads as number
use Rattle.syllable.proofs.tables.decode.Reads as decode
use Rattle.syllable.proofs.encode.Reads as encode
use Rattle.syllable.proofs.syllable_at.Reads as syllable_at
use Rattle.syllable.proofs.advance.Reads as advance

-- A table is the one list of numbers and the fact that it is.
one_table : (t : Table) → record { numbers = operator_numbers; listed = refl } ≡ t
one_table t = ap (λ (q : Cosingl operator_numbers). record { numbers = q.0; listed = q.1 }) (contract' t.listed)

pub new_sole : (κs : _) (a : _) (r r' : _) (e e' : _) → new.Learnt κs a r e → new.Learnt κs a r' e' → r ≡ r'
new_sole κs a r r' e e' p q = sym (one_table r) ∙ one_table r'

pub number_of_sole : (κs : _) (a : _) (r r' : _) (e e' : _) → number_of.Learnt κs a r e → number_of.Learnt κs a r' e' → r ≡ r'
number_of_sole κs a r r' e e' p q = sole p q

pub read_sole : (κs : _) (a : _) (r r' : _) (e e' : _) → read.Learnt κs a r e → read.Learnt κs a r' e' → r ≡ r'
read_sole κs a r r' e e' p q = sole p q

pub numbers_sole : (κs : _) (a : _) (r r' : _) (e e' : _) → numbers.Learnt κs a r e → numbers.Learnt κs a r' e' → r ≡ r'
numbers_sole κs a r r' e e' p q = sole p q

pub number_sole : (κs : _) (a : _) (r r' : _) (e e' : _) → number.Learnt κs a r e → number.Learnt κs a r' e' → r ≡ r'
number_sole κs a r r' e e' p q = sole p q

pub decode_sole : (κs : _) (a : _) (r r' : _) (e e' : _) → decode.Learnt κs a r e → decode.Learnt κs a r' e' → r ≡ r'
decode_sole κs a r r' e e' p q = sole p q

pub encode_sole : (κs : _) (a : _) (r r' : _) (e e' : _) → encode.Learnt κs a r e → encode.Learnt κs a r' e' → r ≡ r'
encode_sole κs a r r' e e' p q = sole p q

pub syllable_at_sole : (κs : _) (a : _) (r r' : _) (e e' : _) → syllable_at.Learnt κs a r e → syllable_at.Learnt κs a r' e' → r ≡ r'
syllable_at_sole κs a r r' e e' p q = sole p q

pub advance_sole : (κs : _) (a : _) (r r' : _) (e e' : _) → advance.Learnt κs a r e → advance.Learnt κs a r' e' → r ≡ r'
advance_sole κs a r r' e e' p q = sole p q
