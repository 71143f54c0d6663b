use Rattle.std.proofs.Common.{◌+◌, ap, rules}
use Rattle.rpg_faults_limits.proofs.CalculationLemmas.{calculations-push}
use Rattle.rpg_faults_limits.proofs.calculations.Calculations.with.Goals as goal

pub returns : goal.returns
returns c =
    let old = c.args.self in
    calculations-push c.args.before.now c.args.card.now c.args.after.now old _ c.is_some.result c.begins.result c.requires.calculations
    (search rules) (ap (λ n. old.cards + n) c.one_if.ensures) c.begins.ensures (ap (λ n. old.subroutines + n) c.one_if-2.ensures) c.is_subroutine_after.ensures
