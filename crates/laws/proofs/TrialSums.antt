-- P1 to P10: the checker computes every trial from the definitions.
use mathlib.Core.Path.{◌≡◌, refl}
use mathlib.Core.Bool.{true}
use Rattle.machine.specs.Outcomes.{◌>>=◌}
use Rattle.machine.specs.Memory.{in_core, read_of, store_of, base_of, pattern_of, k_address_of}
use Rattle.machine.specs.Stack.{slot_of, push_of, top_of, push_b_of, push_a_of, a_empty_of, a_full_of, b_full_of, both_full_of}
use Rattle.machine.specs.Calls.{within_of, index_of, indexed_of, load_of, data_call_of, left_of, call_of, fetched_of, call_k_of}
use Rattle.machine.specs.Arithmetics.{taken_of, given_of, divided_of, reckon_of, relate_of, two_of}
use Rattle.machine.specs.Stores.{litc_of}
use Rattle.machine.specs.Branches.{landing_of, jump_of, if_off_of}
use Rattle.machine.specs.Marks.{also_of, mks_of}
use Rattle.machine.specs.Steps.{operate_of, perform_of, execute_of, registers_fit, refusal_of, step_of}
use Rattle.word.specs.Core.{length_fits, words_fit}
use Rattle.laws.specs.Trials.{trials, all_come}
use Rattle.word.specs.Kinds.{kind_of}
use Rattle.word.specs.Numbers.{value_of, whole_of, operand_of}
use Rattle.syllable.specs.Decoding.{decode_of}
use Rattle.syllable.specs.Positions.{syllable_of}
use Rattle.word.specs.Choices.{if◌then◌otherwise◌}

pub trials_come : all_come trials ≡ true
unfolding ◌>>=◌ if◌then◌otherwise◌ in_core read_of store_of base_of pattern_of k_address_of slot_of push_of top_of push_b_of push_a_of a_empty_of a_full_of b_full_of both_full_of within_of index_of indexed_of load_of data_call_of left_of call_of fetched_of call_k_of taken_of given_of divided_of reckon_of relate_of two_of litc_of landing_of jump_of if_off_of also_of mks_of operate_of perform_of execute_of length_fits words_fit registers_fit refusal_of step_of trials kind_of value_of whole_of operand_of decode_of syllable_of
trials_come = refl
