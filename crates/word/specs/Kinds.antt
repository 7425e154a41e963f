-- The four kinds of word.
use Rattle.std.specs.Prelude.{ℕ}
use Rattle.word.specs.Choices.{if◌then◌otherwise◌}
use Rattle.word.specs.Field.{bit}
use Rattle.word.specs.declared.kinds.Kind.{Kind}
use Rattle.word.specs.declared.kinds.Kind.TheVariants.{Operand, Data, Program, Control}

-- "Operand: flag off ..", "Data descriptor: flag on, bit 1 off ..", "Program descriptor: bits 0, 1, 3 on ..", "Control word: bits 0, 1 on, bit 3 off."
-- The cases of the enum are these four.
unfoldable pub kind_of : ℕ → Kind
kind_of w = if bit w 0 then (if bit w 1 then (if bit w 3 then Program otherwise Control) otherwise Data) otherwise Operand
