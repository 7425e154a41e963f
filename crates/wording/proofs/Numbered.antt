-- A record's kind keeps its number.
use Rattle.std.proofs.Common.{ℕ, ◌≡◌, arith}
use Rattle.word.specs.Choices.{if◌then◌otherwise◌}
use Rattle.wording.specs.Places.{kind_number, kind_by}

pub kind_by_number : (n : ℕ) → kind_number (kind_by n) ≡ n
unfolding kind_by if◌then◌otherwise◌
kind_by_number n = grind arith
