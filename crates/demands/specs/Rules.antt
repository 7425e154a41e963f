-- What it is to keep or to break the inspector's printed rules.
use Rattle.std.specs.Prelude.{ℕ, ◌<◌, ◌≡◌, true, false, List, [], ◌∷◌}
use Rattle.inspector.specs.Verdicts.{Rule}

-- A rule that is broken nowhere; one that is broken at p and at no lower place.
abbrev pub Kept : Rule → Type 0
Kept r = (i : ℕ) → i < r.places → r.broken i ≡ false

pub record BrokenAt (r : Rule) (p : ℕ) : Type 0 where
  pub within : p < r.places
  pub here : r.broken p ≡ true
  pub lowest : (i : ℕ) → i < p → r.broken i ≡ false

pub data AllKept : List Rule → Type 0 where
  none : AllKept []
  kept : {r : Rule} {rs : List Rule} → Kept r → AllKept rs → AllKept (r ∷ rs)

-- The rule n is broken at p first: all before it are kept.
pub data Blames : List Rule → ℕ → ℕ → Type 0 where
  this : {r : Rule} {rs : List Rule} {p : ℕ} → BrokenAt r p → Blames (r ∷ rs) r.number p
  later : {r : Rule} {rs : List Rule} {n p : ℕ} → Kept r → Blames rs n p → Blames (r ∷ rs) n p
