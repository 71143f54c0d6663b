-- The readers and the writers of a job: what was read of them, and how often they failed. `remaining` and `others` are the bytes that
-- its readers have left, and `contents` and `stored` those that its writers have.
use denote.Ref.{MutBor}
use denote.Triple.Both.{Both}
use Rattle.std.specs.Prelude.{◌≡◌, ℕ, ◌-◌, ◌^◌, ◌<◌, List, Option, Result}
use Rattle.rpg_files.specs.Counting.{device_of, faults_of}
use Rattle.rpg_files.specs.Reading.{reader_of}
use Rattle.rpg_files.specs.declared.counting.Counted.{Counted}
use Rattle.rpg_files.specs.declared.reader.RecordReader.{RecordReader}
use Rattle.rpg_engine.specs.Faults.{FaultsAre, device_counts, write_faults}
use Rattle.rpg_engine.specs.Inputs.{Front, OfFronts, OfInputs}
use Rattle.rpg_engine.specs.Outputs.{Contents}
use Rattle.rpg_engine.specs.declared.fault.RunFault.{RunFault}
use Rattle.rpg_engine.specs.declared.files.OutputFile.{OutputFile}
use Rattle.rpg_engine.specs.declared.files.OutputFile.TheVariants.{Print, Disk}
use Rattle.rpg_engine.specs.declared.files.Readers.{Readers}
use Rattle.rpg_engine.specs.declared.files.Writers.{Writers}

-- a value that is lent to a call: `entry.now` when the call begins, `exit.now` when it returns
abbrev pub Lent : Type 0 → Type 0
Lent T = Both (MutBor T) (MutBor T)

-- one more fault of each device can be counted
pub record CanCountFaults {R S P D : Type 0} (readers : Readers R S) (writers : Writers P D) : Type 0 where
  pub primary_faults : faults_of readers.primary < 2 ^ 64 - 1
  pub secondary_faults : faults_of readers.secondary < 2 ^ 64 - 1
  pub printer_faults : faults_of writers.printer < 2 ^ 64 - 1
  pub disk_faults : faults_of writers.disk < 2 ^ 64 - 1

-- the two readers of a job
abbrev pub both : {R S : Type 0} → Counted R → Counted S → Readers R S
both primary secondary = record { primary = primary; secondary = secondary }

module _ {R S : Type 0} (remaining : R → Option (List ℕ)) (others : S → Option (List ℕ)) where
  -- Fact holds of any two inputs that begin with what was read from both readers.
  abbrev pub OfReaders : (old new : Readers R S) → (List ℕ → List ℕ → Type 0) → Type 0
  OfReaders old new Fact =
      OfInputs (remaining (device_of old.primary)) (remaining (device_of new.primary)) (others (device_of old.secondary)) (others (device_of new.secondary)) Fact

  -- Fact holds of what was read from both readers.
  abbrev pub OfRead : (old new : Readers R S) → (Front → Front → Type 0) → Type 0
  OfRead old new Fact =
      OfFronts (remaining (device_of old.primary)) (remaining (device_of new.primary)) (others (device_of old.secondary)) (others (device_of new.secondary)) Fact

  -- the error names the device that is to blame if there is no report
  abbrev pub NamesFault : {P D X : Type 0} → (old new : Readers R S) → (before after : Writers P D) → Result X RunFault → Type 0
  NamesFault old new before after result =
      FaultsAre result (remaining (device_of old.primary)) (remaining (device_of new.primary)) (others (device_of old.secondary)) (others (device_of new.secondary))
      (device_counts old before) (device_counts new after)

  -- likewise for readers and writers that are lent to a call
  abbrev pub ReportsWhoseFault : {P D X : Type 0} → Lent (Readers R S) → Lent (Writers P D) → Result X RunFault → Type 0
  ReportsWhoseFault readers writers result = NamesFault readers.entry.now readers.exit.now writers.entry.now writers.exit.now result

module _ {P D : Type 0} (contents : P → Option (List ℕ)) (stored : D → Option (List ℕ)) where
  -- what each file has
  abbrev pub file_contents : Writers P D → Contents
  file_contents writers Print = contents (device_of writers.printer)
  file_contents writers Disk = stored (device_of writers.disk)

  -- Fact holds of what each file had before and has after.
  abbrev pub OfWriters : {X : Type 0} → (before after : Writers P D) → (Contents → Contents → X → X → Type 0) → X → X → Type 0
  OfWriters before after Fact = Fact (file_contents before) (file_contents after)

-- ---- readers of records

-- the readers that two record readers read from
abbrev pub readers_of : {R S : Type 0} → RecordReader R → RecordReader S → Readers R S
readers_of primary secondary = record { primary = reader_of primary; secondary = reader_of secondary }

-- both record readers still read from what was lent to them
abbrev pub AreLentOn : {R S : Type 0} → Lent (RecordReader R) → Lent (RecordReader S) → Type 0
AreLentOn primary secondary =
    (primary.exit.now.reader.ghost_name ≡ primary.entry.now.reader.ghost_name) × (secondary.exit.now.reader.ghost_name ≡ secondary.entry.now.reader.ghost_name)

-- the error names the device that is to blame, for record readers
abbrev pub ReportsWhoseFaultOf : {R S P D X : Type 0} → (R → Option (List ℕ)) → (S → Option (List ℕ)) → Lent (RecordReader R) → Lent (RecordReader S) → Lent (Writers P D) → Result X RunFault → Type 0
ReportsWhoseFaultOf remaining others primary secondary writers result =
    NamesFault remaining others (readers_of primary.entry.now secondary.entry.now) (readers_of primary.exit.now secondary.exit.now) writers.entry.now writers.exit.now result
