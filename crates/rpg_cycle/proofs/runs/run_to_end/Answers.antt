use Rattle.rpg_cycle.proofs.Composing.{ok_of_err}
use Rattle.rpg_cycle.proofs.runs.run_to_end.Goals as goal

pub returns-in_err-summary-clause-run : goal.returns-in_err-summary-clause-run
returns-in_err-summary-clause-run g c = ok_of_err c.from_residual.result _ _ c.from_residual.ensures.1

pub returns-clause-run : goal.returns-clause-run
returns-clause-run g c = record {
  at_end = _;
  runs = c.in_ok-summary.ensures;
  print = c.take_output.ensures.print;
  disk = c.take_output.ensures.disk;
}
