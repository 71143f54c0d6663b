-- What is written of any input: whole texts, each of which a record brings.
use Rattle.std.specs.Prelude.{◌≡◌, ℕ, ◌+◌, List, [], ◌++◌, Option, Some, None, unwrap_or, Result, Ok, Err, ⊤}
use Rattle.std.specs.Io.KnownBytes.{Appends}
use Rattle.rpg_files.specs.Sending.{AppendsPrefix}
use Rattle.rpg_record_lines.specs.Conversions.{Made, counts_after}
use Rattle.rpg_record_lines.specs.declared.conversion.ConversionFault.{ConversionFault}
use Rattle.rpg_record_lines.specs.declared.conversion.ConversionFault.TheVariants as stops
use Rattle.rpg_record_lines.specs.declared.conversion.Counts.{Counts}

-- no record yet
abbrev pub no_counts : Counts
no_counts = record { records = 0; dropped = 0 }

-- These are the counts and the texts of some records, in order: each results in its text, or none if it is left out.
pub data AreTexts (text_of : List ℕ → Made) : Counts → List ℕ → Type 0 where
  NoTexts : AreTexts text_of no_counts []
  OneMore : (counts : Counts) (text r : List ℕ) (brought : Option (List ℕ)) → AreTexts text_of counts text → text_of r ≡ Ok brought
      → AreTexts text_of (counts_after counts brought) (text ++ unwrap_or brought [])

-- records are numbered from 1
abbrev pub next_number : Counts → ℕ
next_number counts = counts.records + counts.dropped + 1

-- the texts of some records were written, and these are their counts
abbrev pub HaveWritten : (List ℕ → Made) → Option (List ℕ) → Option (List ℕ) → Counts → Type 0
HaveWritten text_of before after counts = (text : List ℕ) × AreTexts text_of counts text × Appends before after text

-- a first part of such texts was written
abbrev pub HaveBegun : (List ℕ → Made) → Option (List ℕ) → Option (List ℕ) → Type 0
HaveBegun text_of before after = (counts : Counts) × (text : List ℕ) × AreTexts text_of counts text × AppendsPrefix before after text

-- Whatever the input, complete texts of records were written, and the counts, or the number of the rejected record, are theirs.
-- Only if the writer failed, the last text may lack its end.
abbrev pub WritesTexts : (List ℕ → Made) → Option (List ℕ) → Option (List ℕ) → Result Counts ConversionFault → Type 0
WritesTexts text_of before after (Ok counts) = HaveWritten text_of before after counts
WritesTexts text_of before after (Err (stops.Record number offset fault)) = (counts : Counts) × HaveWritten text_of before after counts × (number ≡ next_number counts)
WritesTexts text_of before after (Err stops.Read) = (counts : Counts) × HaveWritten text_of before after counts
WritesTexts text_of before after (Err stops.Write) = HaveBegun text_of before after
WritesTexts text_of before after (Err stops.NoMemory) = (counts : Counts) × HaveWritten text_of before after counts

-- ---- steps

-- a record brought this, and it was written
abbrev pub WritesOne : (List ℕ → Made) → Option (List ℕ) → Option (List ℕ) → Counts → Counts → Type 0
WritesOne text_of before after counts more =
    (r : List ℕ) × (brought : Option (List ℕ)) × (text_of r ≡ Ok brought) × (more ≡ counts_after counts brought) × Appends before after (unwrap_or brought [])

-- a first part of what a record brought was written
abbrev pub BeginsOne : (List ℕ → Made) → Option (List ℕ) → Option (List ℕ) → Type 0
BeginsOne text_of before after = (r : List ℕ) × (text : List ℕ) × (text_of r ≡ Ok (Some text)) × AppendsPrefix before after text

-- after this many records, the next one was written, or nothing
abbrev pub WritesNext : (List ℕ → Made) → Option (List ℕ) → Option (List ℕ) → Counts → Result (Option Counts) ConversionFault → Type 0
WritesNext text_of before after counts (Ok (Some more)) = WritesOne text_of before after counts more
WritesNext text_of before after counts (Ok None) = Appends before after []
WritesNext text_of before after counts (Err (stops.Record number offset fault)) = Appends before after [] × (number ≡ next_number counts)
WritesNext text_of before after counts (Err stops.Read) = Appends before after []
WritesNext text_of before after counts (Err stops.Write) = BeginsOne text_of before after
WritesNext text_of before after counts (Err stops.NoMemory) = Appends before after []

-- after this many records nothing more was written
abbrev pub EndsAfter : Counts → Result Counts ConversionFault → Type 0
EndsAfter counts (Ok all) = all ≡ counts
EndsAfter counts (Err (stops.Record number offset fault)) = number ≡ next_number counts
EndsAfter counts (Err stops.Read) = ⊤
EndsAfter counts (Err stops.Write) = ⊤
EndsAfter counts (Err stops.NoMemory) = ⊤
