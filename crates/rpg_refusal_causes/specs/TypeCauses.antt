-- What in a record type breaks V3 to V7, V25 and V26.
use Rattle.std.specs.Prelude.{ℕ, ◌+◌, ◌==◌, not, nat_le, List, [], ◌∷◌, take, Option, None, Some, if◌then◌else◌}
use Rattle.std.specs.List.{list_any, sum}
use Rattle.std.specs.Option.{option_map, option_or}
use Rattle.rpg_program.specs.Input.{TypeRow}
use Rattle.rpg_program.specs.declared.input.ControlField.{ControlField}
use Rattle.rpg_program.specs.declared.input.InputField.{InputField}
use Rattle.rpg_program.specs.declared.input.RecordCode.{RecordCode}
use Rattle.rpg_program.specs.Object.{Object, input_length}
use Rattle.rpg_refusal_causes.specs.First.{cause_if, first_cause}
use Rattle.rpg_refusal_causes.specs.declared.cause.RefusalCause.{RefusalCause}
use Rattle.rpg_refusal_causes.specs.declared.cause.RefusalCause.TheVariants as causes
use Rattle.rpg_verify_rules.specs.TypeRules.{first_matches, joined_width, joined_widths, measures}
use Rattle.rpg_verify_rules.specs.TypeRules.{is_code_in, is_control_in, is_input_in, is_measured, is_of_level, shows_wrongly}
use Rattle.rpg_verify_rules.specs.declared.rule.TypeRule.{TypeRule}
use Rattle.rpg_verify_rules.specs.declared.rule.TypeRule.TheVariants.{V3, V4, V5, V6, V7, V25, V26}

-- a code at a position outside records of that length
abbrev pub code_cause : ℕ → ℕ → RecordCode → Option RefusalCause
code_cause len n c = cause_if (not (is_code_in len c)) (causes.Code n c.position len)

-- a control field that isn't columns of a record of that length
abbrev pub control_cause : ℕ → ℕ → ControlField → Option RefusalCause
control_cause len n c = cause_if (not (is_control_in len c)) (causes.Control n c len)

-- an input field that isn't within a record of that length, or not as long as its field
abbrev pub input_cause : Object → ℕ → ℕ → InputField ℕ → Option RefusalCause
input_cause p len n f = cause_if (not (is_input_in p len f)) (causes.Input n f len)

-- an input field with an indicator that isn't allowed
abbrev pub shown_cause : Object → ℕ → ℕ → InputField ℕ → Option RefusalCause
shown_cause p len n f = cause_if (shows_wrongly p len f) (causes.Shown n f)

-- a match field of a level that one before it has
abbrev pub twice_cause : List ControlField → ℕ → ControlField → Option RefusalCause
twice_cause cs n c = cause_if (list_any (is_of_level c.level) (take n cs)) (causes.Twice n c.level)

-- a match field that isn't columns of a record of that length, or is of a level that one before it has
abbrev pub match_cause : ℕ → List ControlField → ℕ → ControlField → Option RefusalCause
match_cause len cs n c = option_or (cause_if (not (is_control_in len c)) (causes.Match n c len)) (twice_cause cs n c)

-- ---- joined lengths

-- a level of this many columns, if the first type with it has others: too many, or other ones
abbrev pub level_length_cause : ℕ → ℕ → ℕ → RefusalCause
level_length_cause level n first = if nat_le n 256 then causes.OtherLevel level n first else causes.LongLevel level n

-- the first level from a number on that isn't as long as the first one of its kind
abbrev pub levels_cause : ℕ → List ℕ → List ControlField → Option RefusalCause
levels_cause level [] cs = None
levels_cause level (m ∷ ms) cs =
    if is_measured m (joined_width level cs) then levels_cause (level + 1) ms cs else Some (level_length_cause level (joined_width level cs) m)

-- the first level from a number on whose match fields haven't that joined length
abbrev pub widths_cause : ℕ → List ℕ → List ControlField → Option RefusalCause
widths_cause level [] cs = None
widths_cause level (w ∷ ws) cs =
    if joined_width level cs == w then widths_cause (level + 1) ws cs else Some (causes.OtherMatches level (joined_width level cs) w)

-- all match fields are too long, or a level has another length than in the first type with match fields
abbrev pub matches_cause : List ℕ → List ControlField → Option RefusalCause
matches_cause widths cs =
    let n = sum (joined_widths cs) in
    option_or (cause_if (not (nat_le n 256)) (causes.LongMatches n)) (widths_cause 1 widths cs)

-- what in a type that breaks a rule breaks it; joined lengths, if no single field does
unfoldable pub type_cause : TypeRule → Object → TypeRow ℕ → Option RefusalCause
type_cause V3 p t = first_cause (code_cause (input_length p t.file)) 0 t.codes
type_cause V4 p t = option_map causes.TurnedOn t.indicator
type_cause V5 p t = option_or (first_cause (control_cause (input_length p t.file)) 0 t.levels) (levels_cause 1 (measures p.types) t.levels)
type_cause V6 p t = first_cause (input_cause p (input_length p t.file)) 0 t.inputs
type_cause V7 p t = first_cause (shown_cause p (input_length p t.file)) 0 t.inputs
type_cause V25 p t = Some causes.NoSecondary
type_cause V26 p t =
    option_or (first_cause (match_cause (input_length p t.file) t.matches) 0 t.matches)
    (matches_cause (joined_widths (first_matches p.types)) t.matches)
