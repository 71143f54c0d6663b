use Rattle.std.proofs.Common.{inr, sym}
use Rattle.rpg_cli_jobs.proofs.Stopping.{passed_on}
use Rattle.rpg_cli_jobs.specs.Wanted.{StopsRun}
use Rattle.rpg_cli_jobs.proofs.limits.program_of.Goals as goal

pub returns-in_err-keeps_asked_limit-clause-stops : goal.returns-in_err-keeps_asked_limit-clause-stops
returns-in_err-keeps_asked_limit-clause-stops c =
    let a = c.accept-accepted in
    passed_on c.from_residual-in_err-keeps_asked_limit.result _ (StopsRun c.args.object.now c.args.request.now) c.from_residual-in_err-keeps_asked_limit.ensures.1
    (inr (inr (
      a.result,
      c.in_ok-wanted.wanted,
      record {
        program = _;
        spelled = c.in_ok-program.ensures.spelled;
        same = a.ensures.same;
        obeys = a.ensures.accepted;
        refused = a.ensures.refused;
        wanted = sym c.in_ok-wanted.ensures;
      },
      sym c.in_err-keeps_asked_limit.ensures,
    )))
