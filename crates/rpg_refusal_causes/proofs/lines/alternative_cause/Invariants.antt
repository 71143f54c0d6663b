use Rattle.std.proofs.Common.{◌≡◌, map, drop}
use Rattle.rpg_refusal_causes.specs.First.{first_cause}
use Rattle.rpg_refusal_causes.specs.LineCauses.{alternative_cause}
use Rattle.rpg_refusal_causes.proofs.lines.alternative_cause.Given as goal

abbrev pub invariant-loop-at : goal.invariant-loop-at
invariant-loop-at l =
    first_cause (alternative_cause l.version) l.at (map (λ a. a.items) (drop l.at l.alternatives))
    ≡ first_cause (alternative_cause l.version) 0 (map (λ a. a.items) l.alternatives)
