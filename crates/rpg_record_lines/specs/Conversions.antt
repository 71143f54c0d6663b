-- All records of an input, in sequence.
use Rattle.std.specs.Prelude.{◌≡◌, ℕ, zero, suc, ◌+◌, List, [], ◌++◌, drop, Option, Some, None, unwrap_or, Result, Ok, Err, IfSome}
use Rattle.std.specs.Io.KnownBytes.{Appends}
use Rattle.rpg_files.specs.Sending.{AppendsPrefix}
use Rattle.rpg_records.specs.Sizes.{counted}
use Rattle.rpg_record_lines.specs.Cuts.{Cut, Finished, Refused, Whole, next_cut}
use Rattle.rpg_record_lines.specs.declared.conversion.ConversionFault.{ConversionFault}
use Rattle.rpg_record_lines.specs.declared.conversion.ConversionFault.TheVariants as stops
use Rattle.rpg_record_lines.specs.declared.conversion.Counts.{Counts}
use Rattle.rpg_record_lines.specs.declared.fault.LineFault.{LineFault}
use Rattle.rpg_record_lines.specs.declared.fault.LineFault.TheVariants as lines
use Rattle.rpg_record_lines.specs.declared.fault.RecordFault.{RecordFault}
use Rattle.rpg_record_lines.specs.declared.fault.RecordFault.TheVariants as faults
use Rattle.rpg_record_lines.specs.declared.frames.FrameFault.{FrameFault}
use Rattle.rpg_record_lines.specs.declared.frames.FrameFault.TheVariants as frames
use Rattle.rpg_record_lines.specs.declared.frames.Framing.{Framing}
use Rattle.rpg_record_lines.specs.declared.input.InputFault.TheVariants as inputs

-- the result for a record: a text, or none if it is left out; or why it is rejected
abbrev pub Made : Type 0
Made = Result (Option (List ℕ)) RecordFault

-- how an input is converted: the delimiters of its records, the most bytes of one, and the result for each
pub record ConversionSettings : Type 0 where
  pub framing : Framing
  pub most : ℕ
  pub text_of : List ℕ → Made

-- how many records were written and left out, and where the next one begins
pub record InputPlace : Type 0 where
  pub counts : Counts
  pub offset : ℕ

-- what is written, and the counts at the end or the record that is rejected
pub record Conversion : Type 0 where
  pub written : List ℕ
  pub ending : Result Counts ConversionFault

-- ---- one record

-- the counts after one more record, converted or dropped
abbrev pub counts_after : Counts → Option (List ℕ) → Counts
counts_after c (Some text) = record { records = c.records + 1; dropped = c.dropped }
counts_after c None = record { records = c.records; dropped = c.dropped + 1 }

-- after a record that takes this many bytes
abbrev pub input_place_after : InputPlace → ℕ → Option (List ℕ) → InputPlace
input_place_after p used text = record { counts = counts_after p.counts text; offset = counted (p.offset + used) }

-- records are numbered from 1, those that are left out too
abbrev pub conversion_fault : InputPlace → RecordFault → ConversionFault
conversion_fault p fault = stops.Record (p.counts.records + p.counts.dropped + 1) p.offset fault

-- the end of the input
abbrev pub finished_at : InputPlace → Conversion
finished_at p = record { written = []; ending = Ok p.counts }

-- a record that is rejected
abbrev pub refused_at : InputPlace → RecordFault → Conversion
refused_at p fault = record { written = []; ending = Err (conversion_fault p fault) }

-- a text in front of what comes next
abbrev pub written_first : List ℕ → Conversion → Conversion
written_first text c = record { written = text ++ c.written; ending = c.ending }

-- what follows from a record, if there is one
abbrev pub at_cut : InputPlace → Cut → (ℕ → List ℕ → Conversion) → Conversion
at_cut p Finished next = finished_at p
at_cut p (Refused fault) next = refused_at p fault
at_cut p (Whole used r) next = next used r

-- what follows from what it brings
abbrev pub at_made : InputPlace → Made → (Option (List ℕ) → Conversion) → Conversion
at_made p (Ok text) next = next text
at_made p (Err fault) next = refused_at p fault

-- ---- all records

-- from a place on, where this many records may follow: one more is rejected, and so is the first without a result
unfoldable pub conversion_from : ConversionSettings → ℕ → InputPlace → List ℕ → Conversion
conversion_from way zero p input = at_cut p (next_cut way.framing way.most input) (λ used r. refused_at p faults.TooMany)
conversion_from way (suc left) p input =
    at_cut p (next_cut way.framing way.most input)
    (λ used r. at_made p (way.text_of r) (λ text. written_first (unwrap_or text []) (conversion_from way left (input_place_after p used text) (drop used input))))

-- the most records that a run converts
abbrev pub max_converted : ℕ
max_converted = 10000000

-- the beginning of the input
abbrev pub beginning : InputPlace
beginning = record { counts = record { records = 0; dropped = 0 }; offset = 0 }

-- of all bytes of an input
unfoldable pub conversion : ConversionSettings → List ℕ → Conversion
conversion way input = conversion_from way max_converted beginning input

-- Its text was written, and this is its result; or a device failed, or memory ran out, and a first part of the text was written.
abbrev pub IsConversion : Conversion → Option (List ℕ) → Option (List ℕ) → Result Counts ConversionFault → Type 0
IsConversion c before after (Ok counts) = (c.ending ≡ Ok counts) × Appends before after c.written
IsConversion c before after (Err (stops.Record number offset fault)) = (c.ending ≡ Err (stops.Record number offset fault)) × Appends before after c.written
IsConversion c before after (Err stops.Read) = AppendsPrefix before after c.written
IsConversion c before after (Err stops.Write) = AppendsPrefix before after c.written
IsConversion c before after (Err stops.NoMemory) = AppendsPrefix before after c.written

-- an input whose bytes are known was converted
abbrev pub HasConverted : ConversionSettings → Option (List ℕ) → Option (List ℕ) → Option (List ℕ) → Result Counts ConversionFault → Type 0
HasConverted way input before after result = IfSome input (λ bytes. IsConversion (conversion way bytes) before after result)

-- ---- steps

-- why a conversion stops if there is no further record
abbrev pub frame_stop : InputPlace → FrameFault → ConversionFault
frame_stop p (frames.Record fault) = conversion_fault p fault
frame_stop p (frames.Input inputs.Device) = stops.Read
frame_stop p (frames.Input inputs.NoMemory) = stops.NoMemory

-- why it stops where nothing is made of a record
abbrev pub line_stop : InputPlace → LineFault → ConversionFault
line_stop p (lines.Record fault) = conversion_fault p fault
line_stop p lines.NoMemory = stops.NoMemory

-- With a place before these bytes, a step wrote the text of a record, and these counts and bytes are left.
abbrev pub WritesStep : ConversionSettings → InputPlace → Option (List ℕ) → InputPlace → Option (List ℕ) → Option (List ℕ) → List ℕ → Type 0
WritesStep way p new q before after input =
    (text : List ℕ) × (rest : List ℕ) × (new ≡ Some rest) × Appends before after text
    × ((left : ℕ) → conversion_from way (suc left) p input ≡ written_first text (conversion_from way left q rest))

-- With a place before these bytes, it ended the conversion.
abbrev pub EndsStep : ConversionSettings → InputPlace → Option (List ℕ) → Option (List ℕ) → Result Counts ConversionFault → List ℕ → Type 0
EndsStep way p before after result input = (left : ℕ) → IsConversion (conversion_from way (suc left) p input) before after result

-- of an input whose bytes are known
abbrev pub TakesStep : ConversionSettings → InputPlace → Option (List ℕ) → Option (List ℕ) → ℕ → Option (List ℕ) → Option (List ℕ) → Result (Option Counts) ConversionFault → Type 0
TakesStep way p old new offset before after (Ok (Some counts)) = IfSome old (WritesStep way p new (record { counts = counts; offset = offset }) before after)
TakesStep way p old new offset before after (Ok None) = IfSome old (EndsStep way p before after (Ok p.counts))
TakesStep way p old new offset before after (Err fault) = IfSome old (EndsStep way p before after (Err fault))

-- with a place before known bytes, if no record may follow
abbrev pub EndsFull : Framing → ℕ → InputPlace → Option (List ℕ) → Result Counts ConversionFault → Type 0
EndsFull framing most p old result =
    IfSome old (λ input. (way : ConversionSettings) → way.framing ≡ framing → way.most ≡ most → (u : Option (List ℕ)) → IsConversion (conversion_from way 0 p input) u u result)

-- of known bytes, the conversion is what was written and then that of the bytes that are left
abbrev pub ConvertsUpTo : ConversionSettings → Option (List ℕ) → Option (List ℕ) → ℕ → InputPlace → Option (List ℕ) → Option (List ℕ) → Type 0
ConvertsUpTo way old new left p before after =
    IfSome old (λ input. (text : List ℕ) × (rest : List ℕ) × (new ≡ Some rest) × Appends before after text × (conversion way input ≡ written_first text (conversion_from way left p rest)))
