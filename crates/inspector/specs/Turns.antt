-- A syllable as a branch, as COM, or as neither: what the end of the code (rule 34) and the targets (rule 35) look at.
use Rattle.syllable.specs.declared.Branch.{Branch as BranchGroup}
use Rattle.syllable.specs.declared.Operator.{Operator}
use Rattle.syllable.specs.declared.Operator.TheVariants.{Arithmetic, Relation, Logic, Branch, Mop, Mds, Ssp, Ssn, Chs, Top, Xch, Dup, Del, Nop, Lod, Std, Snd, Inx, Mks, Xit, Com, NotBuilt}
use Rattle.syllable.specs.declared.Syllable.{Syllable}
use Rattle.syllable.specs.declared.Syllable.TheVariants.{Litc, Opdc, Desc, Operator as Operates}

pub data Turn : Type 0 where
  branches : BranchGroup → Turn
  communicates : Turn
  neither : Turn

abbrev pub operator_turn : Operator → Turn
operator_turn (Arithmetic o) = neither
operator_turn (Relation o) = neither
operator_turn (Logic o) = neither
operator_turn (Branch o) = branches o
operator_turn Mop = neither
operator_turn Mds = neither
operator_turn Ssp = neither
operator_turn Ssn = neither
operator_turn Chs = neither
operator_turn Top = neither
operator_turn Xch = neither
operator_turn Dup = neither
operator_turn Del = neither
operator_turn Nop = neither
operator_turn Lod = neither
operator_turn Std = neither
operator_turn Snd = neither
operator_turn Inx = neither
operator_turn Mks = neither
operator_turn Xit = neither
operator_turn Com = communicates
operator_turn (NotBuilt k) = neither

abbrev pub turn_of : Syllable → Turn
turn_of (Litc k) = neither
turn_of (Opdc k) = neither
turn_of (Desc k) = neither
turn_of (Operates o) = operator_turn o
