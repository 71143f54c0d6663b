use Rattle.std.proofs.Common.{◌≡◌, map, drop}
use Rattle.std.specs.List.{list_all}
use Rattle.rpg_verify_rules.specs.Indicators.{is_testable}
use Rattle.rpg_verify_rules.proofs.lines.are_alternatives_testable.Given as goal

abbrev pub invariant-loop-conditions : goal.invariant-loop-conditions
invariant-loop-conditions l = list_all (list_all (is_testable l.version)) (map (λ a. a.items) (drop l.conditions-index l.alternatives)) ≡ list_all (list_all (is_testable l.version)) (map (λ a. a.items) l.alternatives)
