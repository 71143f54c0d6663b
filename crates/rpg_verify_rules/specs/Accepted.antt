-- Programs that obey all rules.
use Rattle.rpg_program.specs.Object.{Object}
use Rattle.rpg_verify_rules.specs.Least.{IsFaultless, IsLeast}
use Rattle.rpg_verify_rules.specs.Rules.{broken, rule_number}
use Rattle.rpg_verify_rules.specs.declared.rule.BrokenRule.{BrokenRule}

-- no row breaks a rule
abbrev pub IsAccepted : Object → Type 0
IsAccepted p = IsFaultless rule_number (broken p)

-- the lowest-numbered broken rule, and its first row
abbrev pub IsLeastBroken : Object → BrokenRule → Type 0
IsLeastBroken p b = IsLeast rule_number (broken p) b.rule b.row
