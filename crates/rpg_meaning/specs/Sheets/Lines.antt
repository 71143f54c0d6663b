-- What O cards mean: a line is a record card with the AND, OR and field cards that follow it, up to the next record card. Numbers are the
-- columns of an O card.
use Rattle.std.specs.Prelude.{ℕ, ◌++◌, Bool, false, ◌&&◌, List, [], ◌∷◌, map, Option, None, Some, is_none, is_some, unwrap_or, nat_eq, codes, if◌then◌else◌}
use Rattle.std.specs.Cmp.Lexicographic.{pointwise}
use Rattle.std.specs.List.{filter_map, flat_map, slice_get}
use Rattle.std.specs.Option.{option_and_then, option_map, option_map_or, option_or, option_to_list}
use Rattle.rpg_cards.specs.Cards.{output_field_on, output_on, output_record_on}
use Rattle.rpg_cards.specs.Keys.{Fixed, Key, Named, Nowhere}
use Rattle.rpg_cards.specs.declared.constants.Constant.TheVariants as constant
use Rattle.rpg_cards.specs.declared.spec_card.SpecCard.{SpecCard}
use Rattle.rpg_program.specs.Lines.{Line}
use Rattle.rpg_program.specs.declared.condition.Condition.{Condition}
use Rattle.rpg_program.specs.declared.condition.Conditions.{Conditions}
use Rattle.rpg_program.specs.declared.line.Editing.{Editing}
use Rattle.rpg_program.specs.declared.line.Editing.TheVariants as editing
use Rattle.rpg_program.specs.declared.line.File.{File}
use Rattle.rpg_program.specs.declared.line.File.TheVariants as files
use Rattle.rpg_program.specs.declared.line.LineField.{LineField}
use Rattle.rpg_program.specs.declared.line.Source.{Source}
use Rattle.rpg_program.specs.declared.line.Source.TheVariants as source
use Rattle.rpg_program.specs.declared.line.Spacing.{Spacing}
use Rattle.rpg_program.specs.declared.line.Time.{Time}
use Rattle.rpg_program.specs.declared.line.Time.TheVariants as times
use Rattle.rpg_program.specs.declared.operation.Index.{Index}
use Rattle.rpg_program.specs.declared.operation.Index.TheVariants as index
use Rattle.rpg_program.specs.declared.operation.Operand.{Operand}
use Rattle.rpg_edit_marks.specs.Code.{fill_by}
use Rattle.rpg_edit_marks.specs.declared.code.EditCode.{EditCode}
use Rattle.rpg_edit_marks.specs.declared.code.EditCode.TheVariants as edit
use Rattle.rpg_edit_marks.specs.declared.code.Fill.{Fill}
use Rattle.rpg_edit_marks.specs.declared.code.Fill.TheVariants as fills
use Rattle.rpg_sheet_specs.specs.declared.entry.Entry.{Entry}
use Rattle.rpg_sheet_specs.specs.declared.entry.EntryIndex.{EntryIndex}
use Rattle.rpg_sheet_specs.specs.declared.entry.EntryIndex.TheVariants as entry
use Rattle.rpg_sheet_specs.specs.declared.indicator.ConditionSpec as written
use Rattle.rpg_sheet_specs.specs.declared.indicator.Three.{Three}
use Rattle.rpg_sheet_specs.specs.declared.output.LineTime.{LineTime}
use Rattle.rpg_sheet_specs.specs.declared.output.LineTime.TheVariants as time
use Rattle.rpg_sheet_specs.specs.declared.output.Movement.{Movement}
use Rattle.rpg_sheet_specs.specs.declared.output.OutputField.{OutputField}
use Rattle.rpg_sheet_specs.specs.declared.output.OutputRecord.{OutputRecord}
use Rattle.rpg_sheet_specs.specs.declared.output.OutputSpec.{OutputSpec}
use Rattle.rpg_sheet_specs.specs.declared.output.OutputSpec.TheVariants as output
use Rattle.rpg_sheet_specs.specs.declared.spec.Spec.{Spec}
use Rattle.rpg_meaning.specs.Sheets.Files.{is_disk, is_printer, file_record_length, the_file, the_file_named}
use Rattle.rpg_meaning.specs.Sheets.Cards.{filled_values, cards_before}

-- ---- files and times

-- a file of that name is on a disk
abbrev pub is_on_disk : Option (List ℕ) → List SpecCard → Bool
is_on_disk name cards = option_map_or is_disk (the_file_named name cards) false

-- the record length of an output file
abbrev pub length_on : List SpecCard → File → ℕ
length_on cards files.Printer = file_record_length (the_file is_printer cards)
length_on cards files.Disk = file_record_length (the_file is_disk cards)

-- 15: H, D, T or E
abbrev pub meant_time : LineTime → Time
meant_time time.Heading = times.Heading
meant_time time.Detail = times.Detail
meant_time time.Total = times.Total
meant_time time.Exception = times.Exception

-- ---- spacing: 17 and 18 space before and after, 19-20 and 21-22 skip before and after; with 17-22 blank the printer spaces one line after

-- spaces and skips: a print line without any spaces one line after it
abbrev pub moves_by : File → Option ℕ → Option ℕ → Option ℕ → Option ℕ → Spacing
moves_by files.Printer None None None None = record { space_before = 0; space_after = 1; skip_before = 0; skip_after = 0 }
moves_by file a b c d = record { space_before = unwrap_or a 0; space_after = unwrap_or b 0; skip_before = unwrap_or c 0; skip_after = unwrap_or d 0 }

-- the spaces and skips of a line
abbrev pub meant_moves : File → Movement → Spacing
meant_moves file m = moves_by file m.space_before m.space_after m.skip_before m.skip_after

-- ---- conditions: 23-25, 26-28 and 29-31

-- a condition on a card as the machine tests it
abbrev pub meant_condition : written.ConditionSpec → Condition
meant_condition c = record { indicator = c.indicator; is_negated = c.negated }

-- the conditions of a card, in the order of the columns
abbrev pub meant_conditions : Three (Option written.ConditionSpec) → List Condition
meant_conditions t = map meant_condition (filled_values t)

-- those of an AND card, and those of an OR card
abbrev pub and_card : OutputSpec → Option (List Condition)
and_card (output.And t) = Some (meant_conditions t)
and_card _ = None

-- the conditions of an OR card
abbrev pub or_card : OutputSpec → Option (List Condition)
or_card (output.Or t) = Some (meant_conditions t)
or_card _ = None

-- the conditions of an AND card
abbrev pub and_on : Spec → Option (List Condition)
and_on s = option_and_then and_card (output_on s)

-- the conditions of an OR card
abbrev pub or_on : Spec → Option (List Condition)
or_on s = option_and_then or_card (output_on s)

-- the conditions of the AND cards before the first OR card
abbrev pub further : List SpecCard → List Condition
further cards = flat_map (λ c. unwrap_or (and_on c.spec) []) (cards_before (λ s. is_some (or_on s)) cards)

-- each OR card gives other conditions under which the line is output, with those of the AND cards after it
abbrev pub others : List SpecCard → List (List Condition)
others [] = []
others (c ∷ cs) = option_to_list (option_map (λ own. own ++ further cs) (or_on c.spec)) ++ others cs

-- ---- fields

-- an index on a card: blank, a number or a field
abbrev pub meant_index : Option EntryIndex → Index Key
meant_index None = index.Blank
meant_index (Some (entry.Literal n)) = index.Literal n
meant_index (Some (entry.Name x)) = index.Field (Named x)

-- 32-37 has the field; if it is blank 45-70 has a constant
abbrev pub meant_value : Option Entry → Option (List ℕ) → Operand Key
meant_value (Some e) text = record { field = Named e.name; index = meant_index e.index }
meant_value None (Some text) = record { field = Fixed (constant.Text text); index = index.Blank }
meant_value None None = record { field = Nowhere; index = index.Blank }

-- the page number
abbrev pub is_page : Entry → Bool
is_page e = is_none e.index && pointwise nat_eq e.name (codes "PAGE")

-- 38 has an edit code; if it is blank, 45-70 beside a field is an edit word; PAGE with neither is edited with Z
abbrev pub meant_editing : Option Entry → Option EditCode → Option (List ℕ) → Editing Key
meant_editing f (Some code) text = editing.Code code
meant_editing (Some e) None (Some word) = editing.Word (Fixed (constant.Text word))
meant_editing (Some e) None None = if is_page e then editing.Code edit.Z else editing.Plain
meant_editing None None text = editing.Plain

-- beside an edit code 45-70 has the fill: '*' or '$'
abbrev pub meant_fill : Option EditCode → Option (List ℕ) → Fill
meant_fill None text = fills.Blank
meant_fill (Some code) None = fills.Blank
meant_fill (Some code) (Some text) = unwrap_or (fill_by text) fills.Blank

-- PAGE is increased by one before it is printed
abbrev pub meant_source : Option Entry → Source
meant_source f = if option_map_or is_page f false then source.Page else source.Value

-- at most three conditions, in the three places of a row
abbrev pub meant_places : List Condition → Conditions
meant_places cs = record { first = slice_get cs 0; second = slice_get cs 1; third = slice_get cs 2 }

-- the field of an O card as the machine writes it
abbrev pub meant_field : OutputField → LineField Key
meant_field f = record {
  source = meant_source f.operand;
  operand = meant_value f.operand f.text;
  editing = meant_editing f.operand f.code f.text;
  fill = meant_fill f.code f.text;
  is_blanked = f.blank_after;  -- 39
  end = f.end;  -- 40-43
  conditions = meant_places (meant_conditions f.conditions);  -- 23-31
}

-- ---- lines

-- the card begins a line
abbrev pub begins_line : Spec → Bool
begins_line s = is_some (output_record_on s)

-- 7-14: the file's name, or blank for the file of the previous line
abbrev pub meant_line_file : Option (List ℕ) → Option OutputRecord → Option (List ℕ)
meant_line_file before r = option_or (option_and_then (λ r. r.file) r) before

module _ (all : List SpecCard) where
  -- a line with its fields and conditions
  abbrev pub meant_line : File → OutputRecord → List SpecCard → Line Key
  meant_line file r own = record {
    file = file;
    time = meant_time r.time;
    len = length_on all file;
    spacing = meant_moves file r.movement;
    alternatives = (meant_conditions r.conditions ++ further own) ∷ others own;
    fields = map meant_field (filter_map (λ c. output_field_on c.spec) own);
  }

  -- a record card with the cards that belong to it
  abbrev pub line_with : Option (List ℕ) → List SpecCard → OutputRecord → Line Key
  line_with name own r = meant_line (if is_on_disk name all then files.Disk else files.Printer) r own

  -- the lines of these cards, after a line of that file
  abbrev pub lines_after : Option (List ℕ) → List SpecCard → List (Line Key)
  lines_after name [] = []
  lines_after name (c ∷ cs) = let file = meant_line_file name (output_record_on c.spec) in option_to_list (option_map (line_with file (cards_before begins_line cs)) (output_record_on c.spec)) ++ lines_after file cs

-- the lines of a source, in the order of their cards
abbrev pub meant_lines : List SpecCard → List (Line Key)
meant_lines cards = lines_after cards None cards
