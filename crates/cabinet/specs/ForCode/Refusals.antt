-- What the code's own answers say in numbers.
use Rattle.std.specs.Prelude.{ℕ, List}
use Rattle.std.specs.declared.result.Result.{Result}
use Rattle.std.specs.declared.result.Result.TheVariants.{Ok, Err}
use Rattle.machine.specs.declared.outcome.End.{End}
use Rattle.machine.specs.declared.outcome.Ran.{Ran}
use Rattle.machine.specs.declared.outcome.Refusal.{Refusal}
use Rattle.machine.specs.Steps.{end_number, refusal_number}
use Rattle.tape.specs.declared.errors.ReadError.{ReadError}
use Rattle.tape.specs.Files.{read_error_number}
use Rattle.handout.specs.declared.HandOutError.{HandOutError}
use Rattle.handout.specs.declared.Stretch.{Stretch}
use Rattle.handout.specs.HandOut.{Handed, hand_out_error_number}
use Rattle.inspector.specs.declared.verdict.Broken.{Broken}
use Rattle.inspector.specs.Verdicts.{Verdict, given, broken_number, broken_place}
use Rattle.post.specs.declared.PostError.{PostError}
use Rattle.post.specs.Posting.{post_error_number, post_error_place}
use Rattle.cabinet.specs.declared.refused.Refused.{Refused}
use Rattle.cabinet.specs.Crossings.{StepBytes, step_bytes, RunBytes, run_bytes}
use Rattle.cabinet.specs.Arrays.{handed}
use Rattle.cabinet.specs.Posts.{PostBytes, post_bytes}

-- Of each kind of refusal: its number, and the place that it names, or 0.
abbrev pub by_file : ReadError → Refused
by_file why = record { number = read_error_number why; place = 0 }

abbrev pub by_machine : Refusal → Refused
by_machine why = record { number = refusal_number why; place = 0 }

abbrev pub by_hand_out : HandOutError → Refused
by_hand_out why = record { number = hand_out_error_number why; place = 0 }

abbrev pub by_inspector : Broken → Refused
by_inspector why = record { number = broken_number why; place = broken_place why }

abbrev pub by_post : PostError → Refused
by_post why = record { number = post_error_number why; place = post_error_place why }

-- Of each call: its answer, with the bytes that it left.
abbrev pub step_by : Result End Refused → List ℕ → List ℕ → StepBytes
step_by (Ok end) core regs = step_bytes (end_number end) core regs
step_by (Err why) core regs = step_bytes why.number core regs

abbrev pub run_by : Result Ran Refused → List ℕ → List ℕ → RunBytes
run_by (Ok r) core regs = run_bytes (end_number r.end) core regs r.completed
run_by (Err why) core regs = run_bytes why.number core regs 0

abbrev pub told_by : Result Stretch Refused → Handed
told_by (Ok s) = handed 0 s.start s.count
told_by (Err why) = handed why.number 0 0

abbrev pub inspected_by : Result (Unit {0}) Refused → Verdict
inspected_by (Ok x) = given 0 0
inspected_by (Err why) = given why.number why.place

abbrev pub post_by : Result Ran Refused → List ℕ → List ℕ → PostBytes
post_by (Ok r) core regs = post_bytes 0 core regs 0 (end_number r.end) r.completed
post_by (Err why) core regs = post_bytes why.number core regs why.place 0 0
