-- Lines of records, and records of lines.
use Rattle.std.specs.Prelude.{ℕ, ◌-◌, ◌==◌, ◌++◌, Bool, false, if◌then◌else◌, List, [], ◌∷◌, length, replicate, Option, Some, None, Result, Ok, Err}
use Rattle.rpg_text.specs.Lines.{with_line_feed}
use Rattle.rpg_records.specs.Columns.{page_byte}
use Rattle.rpg_records.specs.declared.translation.Page.{Page}
use Rattle.rpg_record_lines.specs.Conversions.{Made, HasConverted, InputPlace, TakesStep, ConversionSettings}
use Rattle.rpg_record_lines.specs.Converters.{is_low_blank_of, converter_length, line_by, page_of_records, record_by, converter_types}
use Rattle.rpg_records.specs.Sizes.{longest_line}
use Rattle.rpg_record_lines.specs.Frames.{frame}
use Rattle.rpg_record_lines.specs.Inputs.{framing_of, most_of, offset_of, remaining_of}
use Rattle.rpg_record_lines.specs.Lines.{line_of_record}
use Rattle.rpg_record_lines.specs.Outcomes.{TextOrFault}
use Rattle.rpg_record_lines.specs.Records.{record_of_line}
use Rattle.rpg_record_lines.specs.declared.conversion.ConversionFault.{ConversionFault}
use Rattle.rpg_record_lines.specs.declared.conversion.Counts.{Counts}
use Rattle.rpg_record_lines.specs.declared.conversion.RecordFormat.{RecordFormat}
use Rattle.rpg_record_lines.specs.declared.frames.Frames.{Frames}
use Rattle.rpg_record_lines.specs.declared.frames.Framing.{Framing}
use Rattle.rpg_record_lines.specs.declared.frames.Framing.TheVariants as framings
use Rattle.rpg_records.specs.declared.layout.Layout.{Layout}
use Rattle.rpg_records.specs.declared.layout.RecordType.{RecordType}
use Rattle.rpg_record_lines.specs.declared.line.Converter.{Converter}
use Rattle.rpg_record_lines.specs.declared.maker.Maker.{Maker}
use Rattle.rpg_record_lines.specs.declared.maker.Making.{Making}
use Rattle.rpg_record_lines.specs.declared.maker.Making.TheVariants as makings

-- a record that begins with the byte of those that are left out
abbrev pub is_dropped : Option ℕ → List ℕ → Bool
is_dropped None r = false
is_dropped (Some b) [] = false
is_dropped (Some b) (x ∷ r) = x == b

-- with blanks up to n bytes
abbrev pub padded_to : Page → ℕ → List ℕ → List ℕ
padded_to page n r = r ++ replicate (n - length r) (page_byte page 32)

-- a text with the delimiters of its file
abbrev pub made_text : (List ℕ → List ℕ) → TextOrFault → Made
made_text standing (Ok text) = Ok (Some (standing text))
made_text standing (Err fault) = Err fault

-- the line of a record, with its line feed; a record that is left out brings none
abbrev pub written_line : Option ℕ → Page → Bool → List RecordType → ℕ → List ℕ → Made
written_line dropped page low_blank types n r = if is_dropped dropped r then Ok None else made_text with_line_feed (line_of_record page low_blank types (padded_to page n r))

-- the record of a line, with the delimiters of its file
abbrev pub record_text : Framing → Page → Bool → List RecordType → ℕ → List ℕ → Made
record_text framing page low_blank types n line = made_text (frame framing) (record_of_line page low_blank types n line)

-- ---- of a layout and a format

-- records become lines
abbrev pub to_lines : Layout → RecordFormat → ConversionSettings
to_lines layout format = record {
  framing = format.framing;
  most = layout.length;
  text_of = written_line format.dropped format.page format.low_blank layout.types.items layout.length;
}

-- lines become records
abbrev pub to_records : Layout → RecordFormat → ConversionSettings
to_records layout format = record {
  framing = framings.Lines;
  most = longest_line layout;
  text_of = record_text format.framing format.page false layout.types.items layout.length;
}

-- ---- of a maker

-- the line of a record that isn't left out
abbrev pub line_text_by : Converter → List ℕ → Made
line_text_by c r = made_text with_line_feed (line_by c (padded_to (page_of_records c) (converter_length c) r))

-- the record of a line, with the delimiters of its file
abbrev pub record_text_by : Framing → Converter → List ℕ → Made
record_text_by framing c line = made_text (frame framing) (record_by c line)

-- what a record or a line becomes, by the direction
abbrev pub text_by_parts : Making → Page → Bool → List RecordType → ℕ → List ℕ → Made
text_by_parts (makings.Lines dropped) = written_line dropped
text_by_parts (makings.Records framing) = record_text framing

-- what it makes
abbrev pub text_by : Maker → List ℕ → Made
text_by m = text_by_parts m.making (page_of_records m.converter) (is_low_blank_of m.converter) (converter_types m.converter) (converter_length m.converter)

-- how it converts records with these delimiters and of at most this many bytes
abbrev pub way_by : Framing → ℕ → Maker → ConversionSettings
way_by framing most maker = record { framing = framing; most = most; text_of = text_by maker }

-- the way that records go
abbrev pub conversion_settings : {R : Type 0} → Maker → Frames R → ConversionSettings
conversion_settings maker frames = way_by (framing_of frames) (most_of frames) maker

-- the input that frames read was converted, where its bytes are known
abbrev pub HasConvertedFrames : {R : Type 0} → (R → Option (List ℕ)) → Maker → Frames R → Option (List ℕ) → Option (List ℕ) → Result Counts ConversionFault → Type 0
HasConvertedFrames remaining maker frames before after result = HasConverted (conversion_settings maker frames) (remaining_of remaining frames) before after result

-- how far the input has been read
abbrev pub input_place_at : {R : Type 0} → Counts → Frames R → InputPlace
input_place_at counts frames = record { counts = counts; offset = offset_of frames }

-- what a maker does to an input and an output for the next record
abbrev pub Steps : {R : Type 0} → (R → Option (List ℕ)) → Maker → Counts → Frames R → Frames R → Option (List ℕ) → Option (List ℕ) → Result (Option Counts) ConversionFault → Type 0
Steps remaining maker counts old new before after result =
    TakesStep (conversion_settings maker old) (input_place_at counts old) (remaining_of remaining old) (remaining_of remaining new) (offset_of new) before after result
