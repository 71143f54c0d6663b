-- What in an output line breaks V2 and V8 to V15.
use Rattle.std.specs.Prelude.{ℕ, Bool, false, not, List, Option, Some}
use Rattle.std.specs.List.{list_all}
use Rattle.rpg_program.specs.declared.condition.Condition.{Condition}
use Rattle.rpg_program.specs.declared.line.LineField.{LineField}
use Rattle.rpg_program.specs.Object.{LineRow, Object, file_length}
use Rattle.rpg_program.specs.declared.rows.Version.{Version}
use Rattle.rpg_refusal_causes.specs.First.{cause_if, first_cause}
use Rattle.rpg_refusal_causes.specs.declared.cause.RefusalCause.{RefusalCause}
use Rattle.rpg_refusal_causes.specs.declared.cause.RefusalCause.TheVariants as causes
use Rattle.rpg_verify_rules.specs.Indicators.{is_testable}
use Rattle.rpg_verify_rules.specs.LineRules.{has_untestable_condition, blanks_wrongly, is_field_there, lacks_editing, lacks_room, lacks_word}
use Rattle.rpg_verify_rules.specs.declared.rule.LineRule.{LineRule}
use Rattle.rpg_verify_rules.specs.declared.rule.LineRule.TheVariants.{V2, V8, V9, V10, V11, V12, V13, V14, V15}

-- an alternative with a condition that may not be tested
abbrev pub alternative_cause : Version → ℕ → List Condition → Option RefusalCause
alternative_cause v n cs = cause_if (not (list_all (is_testable v) cs)) (causes.Alternative n)

-- a field of a line of that length breaks the rule
abbrev pub field_breaks : LineRule → Object → ℕ → LineField ℕ → Bool
field_breaks V10 p len f = not (is_field_there p f)
field_breaks V11 p len f = lacks_editing p f
field_breaks V12 p len f = lacks_word p f
field_breaks V13 p len f = lacks_room p len f
field_breaks V14 p len f = blanks_wrongly p len f
field_breaks V15 p len f = has_untestable_condition p len f
field_breaks V2 p len f = false
field_breaks V8 p len f = false
field_breaks V9 p len f = false

-- a field that breaks the rule
abbrev pub line_field_cause : LineRule → Object → ℕ → ℕ → LineField ℕ → Option RefusalCause
line_field_cause r p len n f = cause_if (field_breaks r p len f) (causes.Field n f)

-- the line's first field that breaks the rule
abbrev pub fields_cause : LineRule → Object → LineRow → Option RefusalCause
fields_cause r p l = first_cause (line_field_cause r p (file_length p l.file)) 0 l.fields

-- what in a line that breaks a rule breaks it
unfoldable pub line_cause : LineRule → Object → LineRow → Option RefusalCause
line_cause V2 p l = Some causes.NoFile
line_cause V8 p l = Some (causes.Movements l.spacing)
line_cause V9 p l = first_cause (alternative_cause p.version) 0 l.alternatives
line_cause V10 p l = fields_cause V10 p l
line_cause V11 p l = fields_cause V11 p l
line_cause V12 p l = fields_cause V12 p l
line_cause V13 p l = fields_cause V13 p l
line_cause V14 p l = fields_cause V14 p l
line_cause V15 p l = fields_cause V15 p l
