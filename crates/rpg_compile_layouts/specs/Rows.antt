-- Lines at the numbers of their fields: by their headings and the cards after them.
use Rattle.std.specs.Prelude.{ℕ, List, map, false, Option, None}
use Rattle.rpg_cards.specs.Keys.{Key}
use Rattle.rpg_cards.specs.Groups.{followers, groups_from, output_role}
use Rattle.rpg_cards.specs.declared.spec_card.SpecCard.{SpecCard}
use Rattle.rpg_program.specs.Lines.{Line}
use Rattle.rpg_program.specs.declared.condition.Condition.{Condition}
use Rattle.rpg_edit_marks.specs.declared.code.Fill.TheVariants as fills
use Rattle.rpg_program.specs.declared.condition.Conditions.{Conditions}
use Rattle.rpg_program.specs.declared.line.Editing.TheVariants as editings
use Rattle.rpg_program.specs.declared.line.File.{File}
use Rattle.rpg_program.specs.declared.line.LineField.{LineField}
use Rattle.rpg_program.specs.declared.line.Source.TheVariants as sources
use Rattle.rpg_program.specs.declared.operation.Index.{Index}
use Rattle.rpg_program.specs.Object.{LineRow}
use Rattle.rpg_program.specs.Naming.{renamed_field, renamed_line}
use Rattle.rpg_sheet_specs.specs.declared.output.OutputField.{OutputField}
use Rattle.rpg_sheet_specs.specs.declared.output.OutputRecord.{OutputRecord}
use Rattle.rpg_compile_program.specs.Lines.{card_line, line_alternatives, line_field_of, line_of_file, lines_on, output_fields_in}
use Rattle.rpg_compile_program.specs.Program.{row_of_line}
use Rattle.rpg_compile_program.specs.Table.{Table, key_number}

-- a line with its names as numbers
abbrev pub row_in_table : Table → Line Key → LineRow
row_in_table t l = row_of_line (renamed_line (key_number t) l)

-- those of the groups in these cards, if groups without a file go to the one of that name
abbrev pub rows_from : Table → List SpecCard → Option (List ℕ) → List SpecCard → List LineRow
rows_from t source name cards = map (row_in_table t) (map (card_line source) (groups_from output_role name cards))

-- the lines of a source, with their names as numbers
abbrev pub rows_of : Table → List SpecCard → List LineRow
rows_of t source = map (row_in_table t) (lines_on source)

-- ---- a line by its heading and the cards after it

-- the line that begins with a card, with the cards after it
abbrev pub row_after : Table → File → OutputRecord → List SpecCard → LineRow
row_after t file r cards = row_in_table t (line_of_file file 0 (record { heading = r; followers = followers output_role cards; file = None }))

-- the conditions of a line, with those on the AND and OR cards after it
abbrev pub alternatives_after : List Condition → List SpecCard → List (List Condition)
alternatives_after so_far cards = line_alternatives so_far (followers output_role cards)

-- an output field with its name as a number
abbrev pub field_row : Table → OutputField → LineField ℕ
field_row t f = renamed_field (key_number t) (line_field_of f)

-- an output field that is printed unedited
abbrev pub unedited_row : ℕ → Index ℕ → ℕ → Conditions → LineField ℕ
unedited_row field index end conditions = record {
  source = sources.Value;
  operand = record { field = field; index = index };
  editing = editings.Plain;
  fill = fills.Blank;
  is_blanked = false;
  end = end;
  conditions = conditions;
}

-- the output fields on the cards after a line
abbrev pub output_rows_after : Table → List SpecCard → List (LineField ℕ)
output_rows_after t cards = map (renamed_field (key_number t)) (map line_field_of (output_fields_in (followers output_role cards)))
