-- Paper 01's inspector examples: code LITC 5, LITC 7, ADD, COM.
use Rattle.std.specs.Prelude.{ℕ, List, [], ◌∷◌, replicate}

-- 128 words, the code at word 0, as the paper's input bytes give it, all else 0.
abbrev pub example_core : List ℕ
example_core = 0x01401C041209 ∷ replicate 127 0

-- One code word at 0; S = 31 and room d; R = 1 and a table of 64 cells; one record more names one number cell.
abbrev pub example_sheet : ℕ → ℕ → List ℕ
example_sheet d cell = 1 ∷ 0 ∷ 0 ∷ 0 ∷ 0 ∷ 1 ∷ 2 ∷ 0 ∷ 0 ∷ 31 ∷ 0 ∷ d ∷ 5 ∷ 0 ∷ 0 ∷ 1 ∷ 0 ∷ 64 ∷ 3 ∷ 0 ∷ 0 ∷ cell ∷ 0 ∷ 1 ∷ []
