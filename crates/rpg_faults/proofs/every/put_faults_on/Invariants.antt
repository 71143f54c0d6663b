use Rattle.std.proofs.Common.{◌≡◌, ◌++◌, drop, map}
use Rattle.std.specs.Prelude.{filter}
use Rattle.rpg_faults.specs.Rules.{rule}
use Rattle.rpg_faults.specs.Reported.{reported_by, reported_on}
use Rattle.rpg_faults.proofs.every.put_faults_on.Given as goal

abbrev pub invariant-loop-code : goal.invariant-loop-code
invariant-loop-code l =
    l.faults.items ++ map (reported_by l.before l.card l.after) (filter (λ code. rule code l.before l.card l.after) (drop l.code-index l.code-items))
    ≡ l.initial.faults.items ++ reported_on l.before l.card l.after
