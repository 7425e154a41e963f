-- A part of a syllable goes on with a result or halts for a cause.
use Rattle.std.specs.Prelude.{ℕ}
use Rattle.std.specs.declared.result.Result.{Result}
use Rattle.std.specs.declared.result.Result.TheVariants.{Ok, Err}
use Rattle.machine.specs.declared.outcome.Cause.{Cause}
use Rattle.machine.specs.declared.outcome.Cause.TheVariants.{Address, Overflow, Presence, Flag, Index, Unbuilt, Unwhole, ZeroDivisor}
unfoldable pub use Rattle.word.specs.Choices.{if◌then◌otherwise◌}

infixl 20 ◌>>=◌
pub data Res (A : Type 0) : Type 0 where
  on : A → Res A
  halt : Cause → Res A

-- One part after another: what halts, halts the whole.
unfoldable pub ◌>>=◌ : {A B : Type 0} → Res A → (A → Res B) → Res B
on a >>= f = f a
halt n >>= f = halt n

-- What the answer of a part that gives a word or an address says.
abbrev pub part_of : Result ℕ Cause → Res ℕ
part_of (Ok w) = on w
part_of (Err n) = halt n

-- "Numbers given back": "11, 12, 13, 14, 15: address, stack overflow, presence, flag, index"; "19, 20, 21: not built, number not whole 39-bit, zero divisor".
abbrev pub number_of : Cause → ℕ
number_of Address = 11
number_of Overflow = 12
number_of Presence = 13
number_of Flag = 14
number_of Index = 15
number_of Unbuilt = 19
number_of Unwhole = 20
number_of ZeroDivisor = 21
