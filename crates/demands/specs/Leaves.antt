-- What a run of a passed segment leaves, however it ends.
use Rattle.std.specs.Prelude.{ℕ, ◌≡◌, List, length}
use Rattle.demands.specs.Stays.{SameOutside, Plain}

-- Demand 3's own sentence: it stops only for 15, 17, 20 or 21. And 0 is a budget spent.
pub data Number : ℕ → Type 0 where
  spent : Number 0
  index : Number 15
  communicate : Number 17
  unwhole : Number 20
  zero_divisor : Number 21

-- The number given back, and the core it leaves: as long as before, the same outside the sheet's words, named cells and arrays plain.
pub record Leaves (core sheet : List ℕ) (n : ℕ) (after : List ℕ) : Type 0 where
  pub number : Number n
  pub size : length after ≡ length core
  pub outside : SameOutside core sheet after core
  pub plain : Plain core sheet after
