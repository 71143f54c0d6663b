-- The cause of a refusal: what in a row breaks a rule.
use Rattle.std.specs.Prelude.{◌≡◌, ℕ, Bool, false, Option, None, Some, slice_get, if◌then◌else◌}
use Rattle.std.specs.Option.{option_map, unwrap_or}
use Rattle.rpg_program.specs.Object.{Object}
use Rattle.rpg_refusal_causes.specs.First.{cause_of_row}
use Rattle.rpg_refusal_causes.specs.LineCauses.{line_cause}
use Rattle.rpg_refusal_causes.specs.PlaceCauses.{place_cause}
use Rattle.rpg_refusal_causes.specs.SubroutineCauses.{subroutine_cause}
use Rattle.rpg_refusal_causes.specs.TypeCauses.{type_cause}
use Rattle.rpg_refusal_causes.specs.declared.cause.Refusal.{Refusal}
use Rattle.rpg_refusal_causes.specs.declared.cause.RefusalCause.{RefusalCause}
use Rattle.rpg_refusal_causes.specs.declared.cause.RefusalCause.TheVariants as causes
use Rattle.rpg_verify.specs.Placed.{placed_instruction}
use Rattle.rpg_verify_rules.specs.Accepted.{IsLeastBroken}
use Rattle.rpg_verify_rules.specs.Rules.{broken}
use Rattle.rpg_verify_rules.specs.declared.rule.Rule.{Rule}
use Rattle.rpg_verify_rules.specs.declared.rule.Rule.TheVariants as rules

-- the row breaks the rule
abbrev pub row_breaks : Object → Rule → ℕ → Bool
row_breaks p r row = unwrap_or (slice_get (broken p r) row) false

-- what in a row that breaks a rule breaks it
unfoldable pub cause_in : Object → Rule → ℕ → Option RefusalCause
cause_in p rules.Overflow row = option_map causes.Overflow p.overflow.indicator
cause_in p (rules.Type r) row = cause_of_row (type_cause r p) (slice_get p.types row)
cause_in p (rules.Line r) row = cause_of_row (line_cause r p) (slice_get p.lines row)
cause_in p (rules.Place r) row = cause_of_row (place_cause r p) (placed_instruction p row)
cause_in p (rules.Subroutine r) row = subroutine_cause r p row

-- what in a row breaks a rule; nothing if the row doesn't break it
abbrev pub refusal_cause_of : Object → Rule → ℕ → Option RefusalCause
refusal_cause_of p r row = if row_breaks p r row then cause_in p r row else None

-- the lowest-numbered broken rule, its first row, and what in that row breaks it
pub record IsRefusalOf (p : Object) (r : Refusal) : Type 0 where
  pub least : IsLeastBroken p r.broken
  pub what : refusal_cause_of p r.broken.rule r.broken.row ≡ Some r.cause
