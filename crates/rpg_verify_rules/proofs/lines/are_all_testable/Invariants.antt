use Rattle.std.proofs.Common.{◌≡◌, drop}
use Rattle.std.specs.List.{list_all}
use Rattle.rpg_verify_rules.specs.Indicators.{is_testable}
use Rattle.rpg_verify_rules.proofs.lines.are_all_testable.Given as goal

abbrev pub invariant-loop-condition : goal.invariant-loop-condition
invariant-loop-condition l = list_all (is_testable l.version) (drop l.condition-index l.conditions) ≡ list_all (is_testable l.version) l.conditions
