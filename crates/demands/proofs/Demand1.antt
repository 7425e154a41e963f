-- Demand 1 holds.
use borrow.Author.Tests.{eq-eqb, ne_eqb, lt-leb}
use lib.ListN.{length}
use Rattle.word.specs.Choices.{if◌then◌otherwise◌}
use Rattle.machine.specs.Steps.{refusal_of, step_of}
use Rattle.machine.specs.Runs.{run_of}
use Rattle.laws.proofs.FitSteps.{step_kept, step_fit, step_length}
use Rattle.tape.specs.Files.{read_number_of, read_file_of, write_number_of, write_file_of}
use Rattle.inspector.specs.Verdicts.{verdict_of}
use Rattle.demands.specs.Demand1.{Demand1}

pub demand1 : Demand1
unfolding step_of run_of read_file_of write_file_of verdict_of if◌then◌otherwise◌
demand1 =
    record {
      step_refused = λ core g h. rw (ne_eqb (refusal_of core g) 0 h);
      step_kept = step_kept;
      step_fit = step_fit;
      step_length = step_length;
      run_refused = λ core g budget h. rw (ne_eqb (refusal_of core g) 0 h);
      run_over = λ core g budget e h. rw (eq-eqb (refusal_of core g) 0 e, lt-leb budget 1000000 h);
      read_kept = λ bytes core h. rw (ne_eqb (read_number_of bytes (length core)) 0 h);
      write_kept = λ core room h. rw (ne_eqb (write_number_of core (length room)) 0 h);
      inspect_length = λ core sheet e. rw e;
      inspect_words = λ core sheet l e. rw (l, e);
      inspect_sheet = λ core sheet l w e. rw (l, w, e);
    }
