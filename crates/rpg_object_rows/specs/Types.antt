-- Record types.
use Rattle.std.specs.Prelude.{ℕ, ◌/◌, ◌%◌, List, [], ◌∷◌, ◌++◌, length, Option, Result}
use Rattle.rpg_program.specs.Input.{TypeRow}
use Rattle.rpg_program.specs.declared.input.ControlField.{ControlField}
use Rattle.rpg_program.specs.declared.input.InputField.{InputField}
use Rattle.rpg_program.specs.declared.input.InputFile.{InputFile}
use Rattle.rpg_program.specs.declared.input.InputFile.TheVariants.{Primary, Secondary}
use Rattle.rpg_program.specs.declared.input.RecordCode.{RecordCode}
use Rattle.rpg_object_format.specs.declared.fault.Code.{Code}
use Rattle.rpg_object_format.specs.Format.{Format, byte, pair, row, table}
use Rattle.rpg_object_format.specs.Numbers.{any_number, byte_where, choice, yes_or_no, count}
use Rattle.rpg_program.specs.Object.{has_secondary}
use Rattle.rpg_program.specs.declared.rows.Version.{Version}
use Rattle.rpg_text.specs.Texts.{is_between}
use Rattle.rpg_object_format.specs.Indicators.{indicator_format, indicator_number, shows_format}
use Rattle.rpg_object_format.specs.Shapes.{no_number, unused_byte, where_used}

-- ---- additions of version 2, which version 3 has too

-- the number of an input file
abbrev pub input_file_number : InputFile → ℕ
input_file_number Primary = 0
input_file_number Secondary = 1

-- the input file with that number
abbrev pub input_file_by_number : ℕ → Result InputFile Code
input_file_by_number = choice (Primary ∷ Secondary ∷ []) input_file_number

-- the file of a type; in version 1 the primary, written as 0
abbrev pub input_file_format : Version → Format InputFile
input_file_format v = where_used (has_secondary v) (byte input_file_by_number input_file_number) Primary unused_byte

-- in version 1 there are none, and no byte is written
abbrev pub match_count : Version → Format ℕ
match_count v = where_used (has_secondary v) (count 9) 0 no_number

-- ---- rows

-- position, N, character
unfoldable pub record_code_format : Format RecordCode
record_code_format = row
    (λ p. record { position = p.0; is_negated = p.1.0; character = p.1.1 })
    (λ c. (c.position, (c.is_negated, c.character)))
    (pair any_number (λ position. pair yes_or_no (λ is_negated. byte_where (is_between 32 126))))

-- level, numeric, from, to: of control fields and of match fields
unfoldable pub control_field_format : Format ControlField
control_field_format = row
    (λ p. record { level = p.0; is_numeric = p.1.0; from = p.1.1.0; to = p.1.1.1 })
    (λ c. (c.level, (c.is_numeric, (c.from, c.to))))
    (pair (byte_where (is_between 1 9)) (λ level. pair yes_or_no (λ is_numeric. pair any_number (λ from. any_number))))

-- from, to, field, three indicators, 0
unfoldable pub input_field_format : Format (InputField ℕ)
input_field_format = row
    (λ p. record { from = p.0; to = p.1.0; field = p.1.1.0; shows = p.1.1.1.0 })
    (λ f. (f.from, (f.to, (f.field, (f.shows, tt)))))
    (pair any_number (λ from. pair any_number (λ to. pair any_number (λ field. pair shows_format (λ s. unused_byte)))))

-- the numbers of a record type, one after the other
abbrev pub TypeParts : Type 0
TypeParts = Option ℕ × (InputFile × (ℕ × (ℕ × (ℕ × (ℕ × (List RecordCode × (List ControlField × (List (InputField ℕ) × List ControlField))))))))

-- indicator, file, counts of codes, levels, input fields and match fields, and these
unfoldable pub type_parts : Version → Format TypeParts
type_parts v =
    pair indicator_format (λ i. pair (input_file_format v) (λ file.
    pair (count 100) (λ codes. pair (count 100) (λ levels. pair (count 500) (λ inputs. pair (match_count v) (λ matches.
    pair (table codes record_code_format) (λ cs. pair (table levels control_field_format) (λ ls.
    pair (table inputs input_field_format) (λ is. table matches control_field_format)))))))))

-- a record type with its bytes, which differ by version
unfoldable pub record_type_format : Version → Format (TypeRow ℕ)
record_type_format v = row
    (λ p. record {
      file = p.1.0;
      indicator = p.0;
      codes = p.1.1.1.1.1.1.0;
      levels = p.1.1.1.1.1.1.1.0;
      inputs = p.1.1.1.1.1.1.1.1.0;
      matches = p.1.1.1.1.1.1.1.1.1;
    })
    (λ t. (t.indicator, (t.file, (length t.codes, (length t.levels, (length t.inputs, (length t.matches, (t.codes, (t.levels, (t.inputs, t.matches))))))))))
    (type_parts v)

-- the bytes of a record type before its tables
abbrev pub type_head : Version → TypeRow ℕ → List ℕ
type_head v t =
    (indicator_number t.indicator ∷ input_file_number t.file ∷ length t.codes / 256 ∷ length t.codes % 256
    ∷ length t.levels / 256 ∷ length t.levels % 256 ∷ length t.inputs / 256 ∷ length t.inputs % 256 ∷ [])
    ++ (match_count v).spelling (length t.matches)
