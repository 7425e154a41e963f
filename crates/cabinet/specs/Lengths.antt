-- The checks that look at lengths only.
use Rattle.std.specs.Prelude.{ℕ, eqb}
use Rattle.word.specs.Choices.{if◌then◌otherwise◌}
unfoldable pub use Rattle.tape.specs.Files.{core_number_of}

-- "Reading a core file checks 4, then 1, into a core of its exact word count, else 1"
unfoldable pub load_number_of : ℕ → ℕ → ℕ
load_number_of n room =
    if eqb (core_number_of n) 0 then (if eqb room n then 0 otherwise 1) otherwise core_number_of n
