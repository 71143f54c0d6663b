-- What in a subroutine breaks V23 and V24.
use Rattle.std.specs.Prelude.{ℕ, not, ◌==◌, length, Option, None, Some, slice_get, if◌then◌else◌}
use Rattle.std.specs.Option.{option_or}
use Rattle.rpg_program.specs.declared.operation.Instruction.{Instruction}
use Rattle.rpg_program.specs.declared.operation.Instruction.TheVariants.{Return}
use Rattle.rpg_program.specs.Object.{Object, SubroutineRow}
use Rattle.rpg_refusal_causes.specs.First.{cause_if, cause_of_row, first_cause}
use Rattle.rpg_refusal_causes.specs.declared.cause.RefusalCause.{RefusalCause}
use Rattle.rpg_refusal_causes.specs.declared.cause.RefusalCause.TheVariants as causes
use Rattle.rpg_verify_rules.specs.PlaceRules.{is_return}
use Rattle.rpg_verify_rules.specs.declared.rule.SubroutineRule.{SubroutineRule}
use Rattle.rpg_verify_rules.specs.declared.rule.SubroutineRule.TheVariants.{V23, V24}

-- a return outside subroutines
abbrev pub return_cause : ℕ → Instruction ℕ → Option RefusalCause
return_cause place i = cause_if (is_return i) (causes.StrayReturn place)

-- the first return in detail or total calculations
abbrev pub stray_return_cause : Object → Option RefusalCause
stray_return_cause p = option_or (first_cause return_cause 0 p.detail) (first_cause return_cause (length p.detail) p.total)

-- a return of another subroutine
abbrev pub foreign_cause : ℕ → ℕ → Instruction ℕ → Option RefusalCause
foreign_cause number at (Return n) = cause_if (not (n == number)) (causes.ForeignReturn at n)
foreign_cause number at i = None

-- the first return of another subroutine; without one, the end
abbrev pub body_cause : ℕ → SubroutineRow → Option RefusalCause
body_cause number s = option_or (first_cause (foreign_cause number) 0 s.instructions) (Some causes.Unended)

-- the level of a subroutine
abbrev pub subroutine_level_cause : SubroutineRow → Option RefusalCause
subroutine_level_cause s = Some (causes.Level s.level)

-- what in a subroutine that breaks a rule breaks it; returns outside subroutines count for row 0
unfoldable pub subroutine_cause : SubroutineRule → Object → ℕ → Option RefusalCause
subroutine_cause V23 p row =
    option_or (if row == 0 then stray_return_cause p else None) (cause_of_row (body_cause row) (slice_get p.subroutines row))
subroutine_cause V24 p row = cause_of_row subroutine_level_cause (slice_get p.subroutines row)
