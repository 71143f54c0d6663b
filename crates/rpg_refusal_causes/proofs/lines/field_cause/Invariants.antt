use Rattle.std.proofs.Common.{◌≡◌, drop}
use Rattle.rpg_program.specs.Object.{seen}
use Rattle.rpg_refusal_causes.specs.First.{first_cause}
use Rattle.rpg_refusal_causes.specs.LineCauses.{line_field_cause}
use Rattle.rpg_refusal_causes.proofs.lines.field_cause.Given as goal

abbrev pub invariant-loop-at : goal.invariant-loop-at
invariant-loop-at l = first_cause (line_field_cause l.rule (seen l.rows) l.length) l.at (drop l.at l.fields) ≡ first_cause (line_field_cause l.rule (seen l.rows) l.length) 0 l.fields
