use Rattle.std.proofs.Common.{◌≡◌, drop}
use Rattle.rpg_program.specs.Object.{seen}
use Rattle.rpg_refusal_causes.specs.First.{first_cause}
use Rattle.rpg_refusal_causes.specs.TypeCauses.{shown_cause}
use Rattle.rpg_refusal_causes.proofs.types.shown_cause.Given as goal

abbrev pub invariant-loop-at : goal.invariant-loop-at
invariant-loop-at l = first_cause (shown_cause (seen l.rows) l.length) l.at (drop l.at l.inputs) ≡ first_cause (shown_cause (seen l.rows) l.length) 0 l.inputs
