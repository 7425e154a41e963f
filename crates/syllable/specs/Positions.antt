-- Where syllables stand in a word, and what comes after a syllable.
use Rattle.std.specs.Prelude.{ℕ, ◌+◌, ◌*◌, ◌/◌, ◌%◌}
use Rattle.syllable.specs.declared.Position.{Position}
use Rattle.word.specs.Field.{field}

-- "Four in a word, L=0 leftmost."
unfoldable pub syllable_of : ℕ → ℕ → ℕ
syllable_of w l = field w (12 * l) (12 * l + 11)

-- "32767 with L=3 advances to 0, 0": of the 131,072 syllables of a core, counted 4C + L, the one after n
abbrev pub next_of : ℕ → ℕ
next_of n = (n + 1) % 131072

-- "The step reads at C, L, then advances"
abbrev pub advance_of : ℕ → ℕ → Position
advance_of c l = record { c = next_of (4 * c + l) / 4; l = next_of (4 * c + l) % 4 }
