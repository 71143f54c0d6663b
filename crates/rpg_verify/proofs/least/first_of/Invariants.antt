use Rattle.std.proofs.Common.{◌≡◌, drop}
use Rattle.rpg_program.specs.Object.{seen}
use Rattle.rpg_verify_rules.specs.Least.{first_broken}
use Rattle.rpg_verify_rules.specs.Rules.{rule_number, broken}
use Rattle.rpg_verify.proofs.least.first_of.Given as goal

abbrev pub invariant-loop-rule : goal.invariant-loop-rule
invariant-loop-rule l = first_broken rule_number (broken (seen l.rows)) (drop l.rule-index l.order) ≡ first_broken rule_number (broken (seen l.rows)) l.order
