use Rattle.std.proofs.Common.{◌<◌, ◌≤◌, ℕ, get_or}
use Rattle.rpg_program.specs.declared.input.ControlField.{ControlField}
use Rattle.rpg_cycle_records.proofs.levels.highest_level.Given as goal

abbrev pub invariant-loop-field : goal.invariant-loop-field
invariant-loop-field l = (i : ℕ) (d : ControlField) → i < l.field-index → (get_or l.fields i d).level ≤ l.highest
