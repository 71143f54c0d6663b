-- The rules of record types.
use Rattle.std.specs.Prelude.{ℕ, ◌+◌, ◌-◌, Bool, true, not, ◌&&◌, ◌||◌, ◌==◌, nat_le, List, [], ◌∷◌, length, if◌then◌else◌}
use Rattle.std.specs.List.{list_all, list_any, sum}
use Rattle.std.specs.Cmp.Lexicographic.{pointwise}
use Rattle.rpg_program.specs.Forms.{form_at, kind_of}
use Rattle.rpg_program.specs.Input.{TypeRow, fits_columns, fits_shows}
use Rattle.rpg_program.specs.declared.input.ControlField.{ControlField}
use Rattle.rpg_program.specs.declared.input.InputField.{InputField}
use Rattle.rpg_program.specs.declared.input.RecordCode.{RecordCode}
use Rattle.rpg_program.specs.Object.{Object, has_file, input_length}
use Rattle.rpg_text.specs.Texts.{is_between}
use Rattle.rpg_verify_rules.specs.Indicators.{are_settable, if_any, is_of_type}
use Rattle.rpg_verify_rules.specs.declared.rule.TypeRule.{TypeRule}
use Rattle.rpg_verify_rules.specs.declared.rule.TypeRule.TheVariants.{V3, V4, V5, V6, V7, V25, V26}

-- the position is within a record of that length
abbrev pub is_code_in : ℕ → RecordCode → Bool
is_code_in len c = is_between 1 len c.position

-- its columns are within a record of that length, and not reversed
abbrev pub is_control_in : ℕ → ControlField → Bool
is_control_in len c = nat_le 1 c.from && (nat_le c.from c.to && nat_le c.to len)

-- ---- the control fields of a level, joined

-- the columns of a control field of that level; 0 for another level
abbrev pub columns_at : ℕ → ControlField → ℕ
columns_at level c = if c.level == level then c.to + 1 - c.from else 0

-- the columns of all fields of that level; 0 if there are none
abbrev pub joined_width : ℕ → List ControlField → ℕ
joined_width level [] = 0
joined_width level (c ∷ cs) = columns_at level c + joined_width level cs

-- the joined length in the first type that has the level; 0 if none has it
abbrev pub measure : ℕ → List (TypeRow ℕ) → ℕ
measure level [] = 0
measure level (t ∷ ts) = if joined_width level t.levels == 0 then measure level ts else joined_width level t.levels

-- the measures of levels 1 to 9
abbrev pub measures : List (TypeRow ℕ) → List ℕ
measures ts = measure 1 ts ∷ measure 2 ts ∷ measure 3 ts ∷ measure 4 ts ∷ measure 5 ts ∷ measure 6 ts ∷ measure 7 ts ∷ measure 8 ts ∷ measure 9 ts ∷ []

-- no such level, or one with this length, 256 at most
abbrev pub is_measured : ℕ → ℕ → Bool
is_measured measure n = n == 0 || (nat_le n 256 && n == measure)

-- all levels from one on are measured
abbrev pub all_measured : ℕ → List ℕ → List ControlField → Bool
all_measured level [] cs = true
all_measured level (m ∷ []) cs = is_measured m (joined_width level cs)
all_measured level (m ∷ n ∷ ms) cs = is_measured m (joined_width level cs) && all_measured (level + 1) (n ∷ ms) cs

-- ---- input fields

-- columns of a record of that length, as many as the length of an existing plain field
abbrev pub is_input_in : Object → ℕ → InputField ℕ → Bool
is_input_in p len f = fits_columns len f (form_at p.fields f.field)

-- indicators that may be set, for a text only the one for blanks
abbrev pub is_input_shown : Object → InputField ℕ → Bool
is_input_shown p f = are_settable f.shows && fits_shows (kind_of (form_at p.fields f.field)) f.shows

-- its columns are valid, and its indicators aren't: V7 doesn't apply if V6 rejects it
abbrev pub shows_wrongly : Object → ℕ → InputField ℕ → Bool
shows_wrongly p len f = not (is_input_shown p f) && is_input_in p len f

-- ---- match fields

-- the joined lengths of levels 1 to 9
abbrev pub joined_widths : List ControlField → List ℕ
joined_widths cs =
    joined_width 1 cs ∷ joined_width 2 cs ∷ joined_width 3 cs ∷ joined_width 4 cs ∷ joined_width 5 cs ∷ joined_width 6 cs ∷ joined_width 7 cs ∷ joined_width 8 cs
    ∷ joined_width 9 cs ∷ []

-- the field is part of that level
abbrev pub is_of_level : ℕ → ControlField → Bool
is_of_level level c = c.level == level

-- no level appears twice
abbrev pub are_once : List ControlField → Bool
are_once [] = true
are_once (c ∷ cs) = not (list_any (is_of_level c.level) cs) && are_once cs

-- those of the first type that has any; none if no type has any
abbrev pub first_matches : List (TypeRow ℕ) → List ControlField
first_matches [] = []
first_matches (t ∷ ts) = if length t.matches == 0 then first_matches ts else t.matches

-- there are none, or their levels have these joined lengths
abbrev pub are_joined_as : List ℕ → List ControlField → Bool
are_joined_as widths cs = length cs == 0 || pointwise ◌==◌ (joined_widths cs) widths

-- match fields of a record of that length, given the joined lengths of the program's first ones; 256 columns at most
abbrev pub are_matches : ℕ → List ℕ → List ControlField → Bool
are_matches len widths cs = list_all (is_control_in len) cs && (are_once cs && (nat_le (sum (joined_widths cs)) 256 && are_joined_as widths cs))

-- ---- whether a type breaks a rule; its records have the length of its file's records

-- the record type breaks the rule
unfoldable pub type_breaks : TypeRule → Object → TypeRow ℕ → Bool
type_breaks V3 p t = not (list_all (is_code_in (input_length p t.file)) t.codes)
type_breaks V4 p t = not (if_any is_of_type t.indicator)
type_breaks V5 p t = not (list_all (is_control_in (input_length p t.file)) t.levels && all_measured 1 (measures p.types) t.levels)
type_breaks V6 p t = not (list_all (is_input_in p (input_length p t.file)) t.inputs)
type_breaks V7 p t = list_any (shows_wrongly p (input_length p t.file)) t.inputs
type_breaks V25 p t = not (has_file p t.file)
type_breaks V26 p t = not (are_matches (input_length p t.file) (joined_widths (first_matches p.types)) t.matches)
