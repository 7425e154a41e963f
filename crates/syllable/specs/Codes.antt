-- The operators of paper 01 and their codes, in octal.
use Rattle.std.specs.Prelude.{List, [], ◌∷◌, ℕ, ◌+◌, ◌*◌, ◌%◌}
use Rattle.syllable.specs.declared.Arithmetic.TheVariants.{Add, Sub, Mul, Idv, Rdv}
use Rattle.syllable.specs.declared.Relation.TheVariants.{Gtr, Geq, Eql, Leq, Lss, Neq}
use Rattle.syllable.specs.declared.Logic.TheVariants.{Lnd, Lor, Lqv, Lng}
use Rattle.syllable.specs.declared.Branch.TheVariants.{Bfw, Bbw, Bfc, Bbc}
use Rattle.syllable.specs.declared.Operator.{Operator}
use Rattle.syllable.specs.declared.Operator.TheVariants.{Arithmetic, Relation, Logic, Branch, Mop, Mds, Ssp, Ssn, Chs, Top, Xch, Dup, Del, Nop, Lod, Std, Snd, Inx, Mks, Xit, Com, NotBuilt}

-- "Operators (octal)": the code of each, which is the whole syllable; of one that is not built, its number k and the last bits 01
abbrev pub operator_code : Operator → ℕ
operator_code (Arithmetic Add) = 0o0101
operator_code (Arithmetic Sub) = 0o0301
operator_code (Arithmetic Mul) = 0o0401
operator_code (Arithmetic Idv) = 0o3001
operator_code (Arithmetic Rdv) = 0o7001
operator_code (Relation Gtr) = 0o0225
operator_code (Relation Geq) = 0o0125
operator_code (Relation Eql) = 0o4425
operator_code (Relation Leq) = 0o4125
operator_code (Relation Lss) = 0o4225
operator_code (Relation Neq) = 0o0425
operator_code (Logic Lnd) = 0o0415
operator_code (Logic Lor) = 0o0215
operator_code (Logic Lqv) = 0o1015
operator_code (Logic Lng) = 0o0115
operator_code Mop = 0o2015
operator_code Mds = 0o4015
operator_code Ssp = 0o4431
operator_code Ssn = 0o0431
operator_code Chs = 0o1031
operator_code Top = 0o2031
operator_code Xch = 0o1025
operator_code Dup = 0o2025
operator_code Del = 0o0065
operator_code Nop = 0o0055
operator_code Lod = 0o2021
operator_code Std = 0o0421
operator_code Snd = 0o1021
operator_code Inx = 0o0141
operator_code (Branch Bfw) = 0o4231
operator_code (Branch Bbw) = 0o4131
operator_code (Branch Bfc) = 0o0231
operator_code (Branch Bbc) = 0o0131
operator_code Mks = 0o0441
operator_code Xit = 0o0435
operator_code Com = 0o1011
operator_code (NotBuilt k) = 4 * (k % 1024) + 1

-- all that are built, in the paper's order
abbrev pub listed : List Operator
listed =
    Arithmetic Add ∷ Arithmetic Sub ∷ Arithmetic Mul ∷ Arithmetic Idv ∷ Arithmetic Rdv ∷
    Relation Gtr ∷ Relation Geq ∷ Relation Eql ∷ Relation Leq ∷ Relation Lss ∷ Relation Neq ∷
    Logic Lnd ∷ Logic Lor ∷ Logic Lqv ∷ Logic Lng ∷
    Mop ∷ Mds ∷ Ssp ∷ Ssn ∷ Chs ∷ Top ∷
    Xch ∷ Dup ∷ Del ∷ Nop ∷
    Lod ∷ Std ∷ Snd ∷
    Inx ∷
    Branch Bfw ∷ Branch Bbw ∷ Branch Bfc ∷ Branch Bbc ∷
    Mks ∷ Xit ∷ Com ∷
    []
