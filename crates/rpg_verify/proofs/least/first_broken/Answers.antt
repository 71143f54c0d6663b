use Rattle.std.proofs.Common.{◌≡◌, ℕ, Option, Some, None, MatchOption, sym, subst}
use Rattle.std.specs.Option.{option_map}
use Rattle.rpg_program.specs.Object.{Object, seen}
use Rattle.rpg_verify_rules.specs.Accepted.{IsAccepted, IsLeastBroken}
use Rattle.rpg_verify_rules.specs.Least.{IsLeast}
use Rattle.rpg_verify_rules.specs.Rules.{broken, rule_number}
use Rattle.rpg_verify_rules.specs.declared.rule.BrokenRule.{BrokenRule}
use Rattle.rpg_verify_rules.specs.declared.rule.Rule.{Rule}
use Rattle.rpg_verify.proofs.AllRules.{least_rule}
use Rattle.rpg_verify.proofs.least.first_broken.Goals as goal

-- the pair that is found is the one that is answered
as_answered : (p : Object) (o : Option BrokenRule) (l : Option (Rule × ℕ)) → option_map (λ b. (b.rule, b.row)) o ≡ l → MatchOption l (IsAccepted p) (λ x. IsLeast rule_number (broken p) x.0 x.1) → MatchOption o (IsAccepted p) (λ b. IsLeastBroken p b)
as_answered p None l e h = subst (λ m. MatchOption m (IsAccepted p) (λ x. IsLeast rule_number (broken p) x.0 x.1)) (sym e) h
as_answered p (Some f) l e h = subst (λ m. MatchOption m (IsAccepted p) (λ x. IsLeast rule_number (broken p) x.0 x.1)) (sym e) h

pub returns : goal.returns
returns c = as_answered (seen c.args.rows.now) c.first_of.result _ c.first_of.ensures (least_rule (seen c.args.rows.now))
