-- One of two by a test: the one spelling of it in all definitions.
use Rattle.std.specs.Prelude.{Bool, true, false}

infixr 10 if◌then◌otherwise◌
unfoldable pub if◌then◌otherwise◌ : {A : Type 0} → Bool → A → A → A
if true then x otherwise y = x
if false then x otherwise y = y
