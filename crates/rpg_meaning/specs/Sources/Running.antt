-- What a call promises that runs a compiled source over its readers and its writers.
use Rattle.std.specs.Prelude.{◌≡◌, ℕ, ℤ, List, Option, None, Some, Result, IfErr, IfOk}
use Rattle.rpg_cards.specs.declared.spec_card.SpecCard.{SpecCard}
use Rattle.rpg_cycle.specs.Starting.{date_in}
use Rattle.rpg_engine.specs.Devices.{Lent, OfReaders, OfWriters}
use Rattle.rpg_engine.specs.Refusing.{IsReportOfDate}
use Rattle.rpg_engine.specs.declared.fault.RunFault.{RunFault}
use Rattle.rpg_engine.specs.declared.files.Readers.{Readers}
use Rattle.rpg_engine.specs.declared.files.Writers.{Writers}
use Rattle.rpg_engine.specs.declared.report.Report.{Report}
use Rattle.rpg_faults.specs.Faults.{Faultless}
use Rattle.rpg_faults.specs.Source.{cards_in}
use Rattle.rpg_meaning.specs.Sheets.Files.{is_secondary, file_record_length, the_file}
use Rattle.rpg_sheet.specs.Sheet.{first_sheet_fault, source}
use Rattle.rpg_meaning.specs.Sources.Printing.{PrintsAsMeant, SendsPartsAsMeant}
use Rattle.rpg_meaning.specs.declared.source.CompiledSource.{CompiledSource}

-- no card breaks a rule
pub record IsFaultlessSource (text : List ℕ) : Type 0 where
  pub readable : first_sheet_fault (source text) ≡ None
  pub faultless : Faultless (cards_in text)

-- no F card has records of a secondary file
abbrev pub HasNoSecondary : List SpecCard → Type 0
HasNoSecondary cards = file_record_length (the_file is_secondary cards) ≡ 0

module _ {R S P D : Type 0} (remaining : R → Option (List ℕ)) (others : S → Option (List ℕ)) (contents : P → Option (List ℕ)) (stored : D → Option (List ℕ)) where
  -- the report and all output are those of the cards' run on a day over the inputs' records
  abbrev pub PrintsOnDay : CompiledSource → ℤ → (old new : Readers R S) → (before after : Writers P D) → Report → Type 0
  PrintsOnDay source day old new before after report = OfReaders remaining others old new
      (OfWriters contents stored before after (PrintsAsMeant (cards_in source.text.items) source.allowance day report))

  -- each writer has a first part of the bytes of that run
  abbrev pub StopsOnDay : CompiledSource → ℤ → (old new : Readers R S) → (before after : Writers P D) → RunFault → Type 0
  StopsOnDay source day old new before after e = OfReaders remaining others old new
      (OfWriters contents stored before after (SendsPartsAsMeant (cards_in source.text.items) source.allowance day e))

  -- what holds of the run of a compiled source on the day that a date spells
  pub record IsSourceRun (source : CompiledSource) (date : List ℕ) (old new : Readers R S) (before after : Writers P D) (result : Result Report RunFault) : Type 0 where
    -- The source has no fault. A bad date is reported, and then nothing is read or written.
    pub faultless : IsFaultlessSource source.text.items
    pub refused : IsReportOfDate result date
    pub untouched : date_in date ≡ None → (new ≡ old) × (after ≡ before)
    -- The secondary input is never read if no card names a secondary file.
    pub alone : HasNoSecondary (cards_in source.text.items) → new.secondary ≡ old.secondary
    -- The report, with its ending and its halt, and all output are those of the cards' run over the inputs' records, which is the only one.
    pub prints : (day : ℤ) → date_in date ≡ Some day → IfOk result (PrintsOnDay source day old new before after)
    -- If there is no report, each writer has a first part of the bytes of that run.
    pub stops : (day : ℤ) → date_in date ≡ Some day → IfErr result (StopsOnDay source day old new before after)

  -- the call runs a compiled source
  abbrev pub RunsSource : CompiledSource → (date : List ℕ) → Lent (Readers R S) → Lent (Writers P D) → Result Report RunFault → Type 0
  RunsSource source date readers writers result = IsSourceRun source date readers.entry.now readers.exit.now writers.entry.now writers.exit.now result
