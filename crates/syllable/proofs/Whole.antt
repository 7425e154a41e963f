-- The list of operators is whole: every operator stands in it, or is one that is not built.
-- Assumes nothing.
use mathlib.Core.Path.{◌≡◌, refl}
use mathlib.Core.Logic.{◌⊎◌, inl, inr}
use mathlib.Core.List.{List, [], ◌∷◌, Memᴰ}
use Prim.Native.Nat.{ℕ, zero, suc, ◌<◌}
use native.Mathlib.Nat.{le_of_suc-le-suc, not-suc-le-zero}
use native.Mathlib.Omega.{arith}
use lib.ListN.{length}
use Rattle.syllable.specs.declared.Arithmetic.TheVariants.{Add, Sub, Mul, Idv, Rdv}
use Rattle.syllable.specs.declared.Relation.TheVariants.{Gtr, Geq, Eql, Leq, Lss, Neq}
use Rattle.syllable.specs.declared.Logic.TheVariants.{Lnd, Lor, Lqv, Lng}
use Rattle.syllable.specs.declared.Branch.TheVariants.{Bfw, Bbw, Bfc, Bbc}
use Rattle.syllable.specs.declared.Operator.{Operator}
use Rattle.syllable.specs.declared.Operator.TheVariants.{Arithmetic, Relation, Logic, Branch, Mop, Mds, Ssp, Ssn, Chs, Top, Xch, Dup, Del, Nop, Lod, Std, Snd, Inx, Mks, Xit, Com, NotBuilt}
use Rattle.syllable.specs.Codes.{listed}
use Rattle.syllable.specs.ForCode.Numbered.{operator_from}

member : (os : List Operator) (i : ℕ) → i < length os → Memᴰ (operator_from os i 0) os
member [] i h = absurd (not-suc-le-zero h)
member (o ∷ os) zero h = Memᴰ.head refl
member (o ∷ os) (suc i) h = Memᴰ.tail (member os i (le_of_suc-le-suc h))

pub all_listed : (o : Operator) → Memᴰ o listed ⊎ ((k : ℕ) × (o ≡ NotBuilt k))
all_listed (Arithmetic Add) = inl (member listed 0 (omega arith))
all_listed (Arithmetic Sub) = inl (member listed 1 (omega arith))
all_listed (Arithmetic Mul) = inl (member listed 2 (omega arith))
all_listed (Arithmetic Idv) = inl (member listed 3 (omega arith))
all_listed (Arithmetic Rdv) = inl (member listed 4 (omega arith))
all_listed (Relation Gtr) = inl (member listed 5 (omega arith))
all_listed (Relation Geq) = inl (member listed 6 (omega arith))
all_listed (Relation Eql) = inl (member listed 7 (omega arith))
all_listed (Relation Leq) = inl (member listed 8 (omega arith))
all_listed (Relation Lss) = inl (member listed 9 (omega arith))
all_listed (Relation Neq) = inl (member listed 10 (omega arith))
all_listed (Logic Lnd) = inl (member listed 11 (omega arith))
all_listed (Logic Lor) = inl (member listed 12 (omega arith))
all_listed (Logic Lqv) = inl (member listed 13 (omega arith))
all_listed (Logic Lng) = inl (member listed 14 (omega arith))
all_listed Mop = inl (member listed 15 (omega arith))
all_listed Mds = inl (member listed 16 (omega arith))
all_listed Ssp = inl (member listed 17 (omega arith))
all_listed Ssn = inl (member listed 18 (omega arith))
all_listed Chs = inl (member listed 19 (omega arith))
all_listed Top = inl (member listed 20 (omega arith))
all_listed Xch = inl (member listed 21 (omega arith))
all_listed Dup = inl (member listed 22 (omega arith))
all_listed Del = inl (member listed 23 (omega arith))
all_listed Nop = inl (member listed 24 (omega arith))
all_listed Lod = inl (member listed 25 (omega arith))
all_listed Std = inl (member listed 26 (omega arith))
all_listed Snd = inl (member listed 27 (omega arith))
all_listed Inx = inl (member listed 28 (omega arith))
all_listed (Branch Bfw) = inl (member listed 29 (omega arith))
all_listed (Branch Bbw) = inl (member listed 30 (omega arith))
all_listed (Branch Bfc) = inl (member listed 31 (omega arith))
all_listed (Branch Bbc) = inl (member listed 32 (omega arith))
all_listed Mks = inl (member listed 33 (omega arith))
all_listed Xit = inl (member listed 34 (omega arith))
all_listed Com = inl (member listed 35 (omega arith))
all_listed (NotBuilt k) = inr (k, refl)
