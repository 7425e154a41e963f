-- Any two permitted answers of a call are equal, and so is what they leave behind its references.
use Prim.Native.Nat.{ℕ, zero, suc}
use mathlib.Core.Path.{◌≡◌, refl}
use Rattle.std.specs.declared.result.Result.{Result}
use Rattle.std.specs.declared.result.Result.TheVariants.{Ok, Err}
use Rattle.word.specs.Core.{number_by}
use Rattle.word.specs.declared.cores.CoreError.TheVariants.{Length as Long, Word}
use Rattle.word.proofs.Sole.{sole, sole_said}
use Rattle.tape.specs.declared.errors.ReadError.{ReadError}
use Rattle.tape.specs.declared.errors.ReadError.TheVariants.{Records, Length}
use Rattle.tape.specs.declared.errors.WriteError.{WriteError}
use Rattle.tape.specs.declared.errors.WriteError.TheVariants.{Core, Room}
use Rattle.tape.specs.Files.{read_error_number, write_error_number}
use Rattle.tape.proofs.reading.words_in.Reads as words_in
use Rattle.tape.proofs.reading.read_file.Reads as read_file
use Rattle.tape.proofs.writing.write_file.Reads as write_file

-- Each answer comes back from its number, so the numbering is one to one.
read_by : ℕ → Result (Unit {0}) ReadError
read_by zero = Ok tt
read_by (suc zero) = Err Length
read_by (suc (suc n)) = Err Records

read_back : (r : Result (Unit {0}) ReadError) → read_by (number_by read_error_number r) ≡ r
unfolding read_by
read_back (Ok u) = refl
read_back (Err Records) = refl
read_back (Err Length) = refl

write_by : ℕ → Result (Unit {0}) WriteError
write_by zero = Ok tt
write_by (suc zero) = Err (Core Long)
write_by (suc (suc zero)) = Err (Core Word)
write_by (suc (suc (suc n))) = Err Room

write_back : (r : Result (Unit {0}) WriteError) → write_by (number_by write_error_number r) ≡ r
unfolding write_by
write_back (Ok u) = refl
write_back (Err (Core Long)) = refl
write_back (Err (Core Word)) = refl
write_back (Err Room) = refl

pub words_in_sole : (κs : _) (a : _) (r r' : _) (e e' : _) → words_in.Learnt κs a r e → words_in.Learnt κs a r' e' → r ≡ r'
words_in_sole κs a r r' e e' p q = sole p q

pub read_file_sole : (κs : _) (a : _) (r r' : _) (e e' : _) → read_file.Learnt κs a r e → read_file.Learnt κs a r' e' → (r ≡ r') × (e.1.0.now ≡ e'.1.0.now)
read_file_sole κs a r r' e e' p q = (sole_said (number_by read_error_number) read_by read_back p.number q.number, sole p.core q.core)

pub write_file_sole : (κs : _) (a : _) (r r' : _) (e e' : _) → write_file.Learnt κs a r e → write_file.Learnt κs a r' e' → (r ≡ r') × (e.1.0.now ≡ e'.1.0.now)
write_file_sole κs a r r' e e' p q = (sole_said (number_by write_error_number) write_by write_back p.number q.number, sole p.room q.room)
