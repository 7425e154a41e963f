-- Any two permitted answers of a call are equal.
use mathlib.Core.Path.{◌≡◌, sym, ◌∙◌}
use Rattle.sheet.specs.declared.Entry.{Entry}
use Rattle.sheet.proofs.entry_at.Reads as entry_at

pub entry_at_sole : (κs : _) (a : _) (r r' : Entry) (e e' : _) → entry_at.Learnt κs a r e → entry_at.Learnt κs a r' e' → r ≡ r'
entry_at_sole κs a r r' e e' p q = p ∙ sym q
