-- All rules, in the order of their numbers.
use Rattle.std.proofs.Common.{inl, inr, Bool, List, MatchOption, refl, arith}
use Rattle.rpg_program.specs.Object.{Object}
use Rattle.rpg_verify_rules.specs.Accepted.{IsAccepted}
use Rattle.rpg_verify_rules.specs.Least.{IsLeast, first_broken}
use Rattle.rpg_verify_rules.specs.Rules.{broken, rule_number, all_rules}
use Rattle.rpg_verify_rules.specs.declared.rule.Rule.{Rule}
use Rattle.rpg_verify_rules.specs.declared.rule.Rule.TheVariants as rules
use Rattle.rpg_verify_rules.specs.declared.rule.TypeRule.TheVariants.{V3, V4, V5, V6, V7, V25, V26}
use Rattle.rpg_verify_rules.specs.declared.rule.LineRule.TheVariants.{V2, V8, V9, V10, V11, V12, V13, V14, V15}
use Rattle.rpg_verify_rules.specs.declared.rule.PlaceRule.TheVariants.{V16, V17, V18, V19, V20, V21, V22}
use Rattle.rpg_verify_rules.specs.declared.rule.SubroutineRule.TheVariants.{V23, V24}
use Rattle.rpg_verify.proofs.LeastLaws.{IsOneOf, Ascends, least}

module _ (broken_by : Rule → List Bool) where
  ascend : Ascends rule_number broken_by 0 all_rules
  ascend = (omega arith, (omega arith, (omega arith, (omega arith, (omega arith, (omega arith, (omega arith, (omega arith, (omega arith, (omega arith, (omega arith, (omega arith, (omega arith, (omega arith, (omega arith, (omega arith, (omega arith, (omega arith, (omega arith, (omega arith, (omega arith, (omega arith, (omega arith, (omega arith, (omega arith, (omega arith, tt))))))))))))))))))))))))))

  all : (r : Rule) → IsOneOf rule_number broken_by r all_rules
  all rules.Overflow = inl refl
  all (rules.Line V2) = inr (inl refl)
  all (rules.Type V3) = inr (inr (inl refl))
  all (rules.Type V4) = inr (inr (inr (inl refl)))
  all (rules.Type V5) = inr (inr (inr (inr (inl refl))))
  all (rules.Type V6) = inr (inr (inr (inr (inr (inl refl)))))
  all (rules.Type V7) = inr (inr (inr (inr (inr (inr (inl refl))))))
  all (rules.Line V8) = inr (inr (inr (inr (inr (inr (inr (inl refl)))))))
  all (rules.Line V9) = inr (inr (inr (inr (inr (inr (inr (inr (inl refl))))))))
  all (rules.Line V10) = inr (inr (inr (inr (inr (inr (inr (inr (inr (inl refl)))))))))
  all (rules.Line V11) = inr (inr (inr (inr (inr (inr (inr (inr (inr (inr (inl refl))))))))))
  all (rules.Line V12) = inr (inr (inr (inr (inr (inr (inr (inr (inr (inr (inr (inl refl)))))))))))
  all (rules.Line V13) = inr (inr (inr (inr (inr (inr (inr (inr (inr (inr (inr (inr (inl refl))))))))))))
  all (rules.Line V14) = inr (inr (inr (inr (inr (inr (inr (inr (inr (inr (inr (inr (inr (inl refl)))))))))))))
  all (rules.Line V15) = inr (inr (inr (inr (inr (inr (inr (inr (inr (inr (inr (inr (inr (inr (inl refl))))))))))))))
  all (rules.Place V16) = inr (inr (inr (inr (inr (inr (inr (inr (inr (inr (inr (inr (inr (inr (inr (inl refl)))))))))))))))
  all (rules.Place V17) = inr (inr (inr (inr (inr (inr (inr (inr (inr (inr (inr (inr (inr (inr (inr (inr (inl refl))))))))))))))))
  all (rules.Place V18) = inr (inr (inr (inr (inr (inr (inr (inr (inr (inr (inr (inr (inr (inr (inr (inr (inr (inl refl)))))))))))))))))
  all (rules.Place V19) = inr (inr (inr (inr (inr (inr (inr (inr (inr (inr (inr (inr (inr (inr (inr (inr (inr (inr (inl refl))))))))))))))))))
  all (rules.Place V20) = inr (inr (inr (inr (inr (inr (inr (inr (inr (inr (inr (inr (inr (inr (inr (inr (inr (inr (inr (inl refl)))))))))))))))))))
  all (rules.Place V21) = inr (inr (inr (inr (inr (inr (inr (inr (inr (inr (inr (inr (inr (inr (inr (inr (inr (inr (inr (inr (inl refl))))))))))))))))))))
  all (rules.Place V22) = inr (inr (inr (inr (inr (inr (inr (inr (inr (inr (inr (inr (inr (inr (inr (inr (inr (inr (inr (inr (inr (inl refl)))))))))))))))))))))
  all (rules.Subroutine V23) = inr (inr (inr (inr (inr (inr (inr (inr (inr (inr (inr (inr (inr (inr (inr (inr (inr (inr (inr (inr (inr (inr (inl refl))))))))))))))))))))))
  all (rules.Subroutine V24) = inr (inr (inr (inr (inr (inr (inr (inr (inr (inr (inr (inr (inr (inr (inr (inr (inr (inr (inr (inr (inr (inr (inr (inl refl)))))))))))))))))))))))
  all (rules.Type V25) = inr (inr (inr (inr (inr (inr (inr (inr (inr (inr (inr (inr (inr (inr (inr (inr (inr (inr (inr (inr (inr (inr (inr (inr (inl refl))))))))))))))))))))))))
  all (rules.Type V26) = inr (inr (inr (inr (inr (inr (inr (inr (inr (inr (inr (inr (inr (inr (inr (inr (inr (inr (inr (inr (inr (inr (inr (inr (inr (inl refl)))))))))))))))))))))))))

pub least_rule : (p : Object) → MatchOption (first_broken rule_number (broken p) all_rules) (IsAccepted p) (λ x. IsLeast rule_number (broken p) x.0 x.1)
least_rule p = least rule_number (broken p) all_rules (ascend (broken p)) (all (broken p))
