-- Laws of writing core: its length stays, and a word that is written and put back leaves it as it was.
use mathlib.Core.Path.{◌≡◌, refl}
use mathlib.Core.Bool.{Bool, true, false}
use mathlib.Core.List.{List}
use Prim.Native.Nat.{ℕ}
use lib.ListN.{length, set, get_or, length-set}
use lib.Seq.{set-set, set-get_or}
use Rattle.machine.specs.ForCode.Answers.{put_of}

pub length_put : (live : Bool) (m w : ℕ) (core : List ℕ) → length (put_of live m w core) ≡ length core
length_put true m w core = length-set core m w
length_put false m w core = refl

pub put_back : (core : List ℕ) (m w : ℕ) → set (set core m w) m (get_or core m 0) ≡ core
put_back core m w = rw (set-set core m w (get_or core m 0), set-get_or core m 0)
