-- The second check of a core is std's test of every word.
use mathlib.Core.Path.{◌≡◌, refl, ap}
use mathlib.Core.Bool.{◌&&◌}
use mathlib.Core.List.{List, [], ◌∷◌}
use Prim.Native.Nat.{ℕ, ◌^◌}
use lib.Dec.{ltb}
use Rattle.std.specs.List.{list_all}
use Rattle.word.specs.Core.{words_fit}

pub words_all : (core : List ℕ) → list_all (λ w. ltb w (2 ^ 48)) core ≡ words_fit core
unfolding words_fit
words_all [] = refl
words_all (w ∷ ws) = ap (λ r. ltb w (2 ^ 48) && r) (words_all ws)
