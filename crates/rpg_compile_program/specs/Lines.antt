-- Output lines, from the groups of O cards, by names.
use Rattle.std.specs.Prelude.{ℕ, ◌++◌, Bool, false, ◌&&◌, List, [], ◌∷◌, map, Option, None, Some, is_none, is_some, unwrap_or, nat_eq, codes, if◌then◌else◌}
use Rattle.std.specs.Cmp.Lexicographic.{pointwise}
use Rattle.std.specs.List.{filter_map}
use Rattle.std.specs.Option.{option_and_then, option_map, option_map_or}
use Rattle.rpg_cards.specs.Calculations.{in_places, standing}
use Rattle.rpg_cards.specs.Keys.{Fixed, Key, Nowhere, entry_operand}
use Rattle.rpg_cards.specs.Cards.{output_field_in}
use Rattle.rpg_cards.specs.Files.{file_by, file_for, file_use}
use Rattle.rpg_cards.specs.Groups.{Group, groups, output_role}
use Rattle.rpg_cards.specs.Times.{time_of}
use Rattle.rpg_cards.specs.declared.constants.Constant.TheVariants as constant
use Rattle.rpg_cards.specs.declared.files.FileUse.{FileUse}
use Rattle.rpg_cards.specs.declared.files.FileUse.TheVariants as uses
use Rattle.rpg_cards.specs.declared.spec_card.SpecCard.{SpecCard}
use Rattle.rpg_program.specs.Lines.{Line}
use Rattle.rpg_program.specs.declared.condition.Condition.{Condition}
use Rattle.rpg_program.specs.declared.line.Editing.{Editing}
use Rattle.rpg_program.specs.declared.line.Editing.TheVariants as editing
use Rattle.rpg_program.specs.declared.line.File.{File}
use Rattle.rpg_program.specs.declared.line.File.TheVariants as files
use Rattle.rpg_program.specs.declared.line.LineField.{LineField}
use Rattle.rpg_program.specs.declared.line.Source.{Source}
use Rattle.rpg_program.specs.declared.line.Source.TheVariants as source
use Rattle.rpg_program.specs.declared.line.Spacing.{Spacing}
use Rattle.rpg_program.specs.declared.operation.Index.TheVariants as index
use Rattle.rpg_program.specs.declared.operation.Operand.{Operand}
use Rattle.rpg_edit_marks.specs.Code.{fill_by}
use Rattle.rpg_edit_marks.specs.declared.code.EditCode.{EditCode}
use Rattle.rpg_edit_marks.specs.declared.code.EditCode.TheVariants as edit
use Rattle.rpg_edit_marks.specs.declared.code.Fill.{Fill}
use Rattle.rpg_edit_marks.specs.declared.code.Fill.TheVariants as fills
use Rattle.rpg_sheet_specs.specs.declared.entry.Entry.{Entry}
use Rattle.rpg_sheet_specs.specs.declared.file.FileSpec.{FileSpec}
use Rattle.rpg_sheet_specs.specs.declared.output.Movement.{Movement}
use Rattle.rpg_sheet_specs.specs.declared.output.OutputField.{OutputField}
use Rattle.rpg_sheet_specs.specs.declared.output.OutputRecord.{OutputRecord}
use Rattle.rpg_sheet_specs.specs.declared.output.OutputSpec.{OutputSpec}
use Rattle.rpg_sheet_specs.specs.declared.output.OutputSpec.TheVariants as output

-- ---- files

-- the record length of a file, 0 if there is none
abbrev pub record_length_of : Option FileSpec → ℕ
record_length_of file = option_map_or (λ f. f.record_length) file 0

-- the file that a line goes to; the printer if it isn't known
abbrev pub file_put : FileUse → File
file_put uses.Printer = files.Printer
file_put uses.Disk = files.Disk
file_put _ = files.Printer

-- the file of a line, by the F card that it names
abbrev pub output_file : Option FileSpec → File
output_file file = option_map_or (λ f. file_put (file_use f)) file files.Printer

-- how long the lines of a file are
abbrev pub put_length : List SpecCard → File → ℕ
put_length cards files.Printer = record_length_of (file_for uses.Printer cards)
put_length cards files.Disk = record_length_of (file_for uses.Disk cards)

-- ---- the form's movements

-- a line without spaces and skips
abbrev pub is_unmoved : Movement → Bool
is_unmoved m = is_none m.space_before && is_none m.space_after && is_none m.skip_before && is_none m.skip_after

-- on the printer one space after, if these columns are blank
abbrev pub spaces_after : File → Movement → ℕ
spaces_after files.Printer m = if is_unmoved m then 1 else unwrap_or m.space_after 0
spaces_after files.Disk m = unwrap_or m.space_after 0

-- the spaces and skips of a line, 0 if its columns are blank
abbrev pub spacing_of : File → Movement → Spacing
spacing_of file m = record {
  space_before = unwrap_or m.space_before 0;
  space_after = spaces_after file m;
  skip_before = unwrap_or m.skip_before 0;
  skip_after = unwrap_or m.skip_after 0;
}

-- ---- when a line is output

-- an AND card continues the alternative, an OR card begins one
abbrev pub line_alternatives : List Condition → List OutputSpec → List (List Condition)
line_alternatives so_far [] = so_far ∷ []
line_alternatives so_far (output.And cs ∷ os) = line_alternatives (so_far ++ standing cs) os
line_alternatives so_far (output.Or cs ∷ os) = so_far ∷ line_alternatives (standing cs) os
line_alternatives so_far (output.Record r ∷ os) = line_alternatives so_far os
line_alternatives so_far (output.Field f ∷ os) = line_alternatives so_far os

-- ---- fields

-- a constant of that text, if there is one
abbrev pub text_key : Option (List ℕ) → Key
text_key text = option_map_or (λ t. Fixed (constant.Text t)) text Nowhere

-- an entry, otherwise the constant
abbrev pub output_operand_of : OutputField → Operand Key
output_operand_of f = unwrap_or (option_map entry_operand f.operand) (record { field = text_key f.text; index = index.Blank })

-- PAGE without an index
abbrev pub names_page : Entry → Bool
names_page e = is_none e.index && pointwise nat_eq e.name (codes "PAGE")

-- an output field that is PAGE
abbrev pub puts_page : OutputField → Bool
puts_page f = option_map_or names_page f.operand false

-- whether an output field prints PAGE or a value
abbrev pub output_source : OutputField → Source
output_source f = if puts_page f then source.Page else source.Value

-- with a name and no code the text is an edit word, and PAGE with neither is edited with Z
abbrev pub editing_unmarked : Bool → Option (List ℕ) → Editing Key
editing_unmarked page (Some text) = editing.Word (Fixed (constant.Text text))
editing_unmarked page None = if page then editing.Code edit.Z else editing.Plain

-- the editing of an output field with that code, or without one
abbrev pub editing_by : OutputField → Option EditCode → Editing Key
editing_by f (Some code) = editing.Code code
editing_by f None = if is_some f.operand then editing_unmarked (puts_page f) f.text else editing.Plain

-- the editing of an output field
abbrev pub editing_of : OutputField → Editing Key
editing_of f = editing_by f f.code

-- the fill of an output field: the text beside its code, otherwise blanks
abbrev pub output_fill : OutputField → Fill
output_fill f = if is_some f.code then unwrap_or (option_and_then fill_by f.text) fills.Blank else fills.Blank

-- the row of an output field, by names
abbrev pub line_field_of : OutputField → LineField Key
line_field_of f = record {
  source = output_source f;
  operand = output_operand_of f;
  editing = editing_of f;
  fill = output_fill f;
  is_blanked = f.blank_after;
  end = f.end;
  conditions = in_places (standing f.conditions);
}

-- ---- lines

-- the fields of a line's cards
abbrev pub output_fields_in : List OutputSpec → List OutputField
output_fields_in cards = filter_map output_field_in cards

-- a line of that file, whose lines have that length
abbrev pub line_of_file : File → ℕ → Group OutputRecord OutputSpec → Line Key
line_of_file file len g = record {
  file = file;
  time = time_of g.heading.time;
  len = len;
  spacing = spacing_of file g.heading.movement;
  alternatives = line_alternatives (standing g.heading.conditions) g.followers;
  fields = map line_field_of (output_fields_in g.followers);
}

-- the row of a line, by names: its card, with its AND, OR and field cards
abbrev pub card_line : List SpecCard → Group OutputRecord OutputSpec → Line Key
card_line cards g = let file = output_file (file_by g.file cards) in line_of_file file (put_length cards file) g

-- the lines of a source, by names
abbrev pub lines_on : List SpecCard → List (Line Key)
lines_on cards = map (card_line cards) (groups output_role cards)
