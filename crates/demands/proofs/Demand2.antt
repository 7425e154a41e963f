-- Demand 2 holds.
use Rattle.machine.proofs.OneAnswer.{answered_sole, ran_sole}
use Rattle.laws.proofs.TrialSums.{trials_come}
use Rattle.laws.proofs.Running.{run_none, run_on, run_com, run_stop, run_add}
use Rattle.tape.proofs.RoundTrip.{file_same, core_same}
use Rattle.demands.specs.Demand2.{Demand2}

pub demand2 : Demand2
demand2 =
    record {
      sums = trials_come;
      step_sole = λ core g. answered_sole g;
      run_sole = λ core g budget. ran_sole g;
      run_none = run_none;
      run_on = run_on;
      run_com = run_com;
      run_stop = run_stop;
      run_add = run_add;
      file_same = file_same;
      core_same = core_same;
    }
