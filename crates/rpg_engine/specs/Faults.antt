-- Which device is to blame if a run gave no report.
use Rattle.std.specs.Prelude.{◌≡◌, ℕ, ◌+◌, List, Option, Result, Err}
use Rattle.rpg_program.specs.declared.input.InputFile.{InputFile}
use Rattle.rpg_program.specs.declared.input.InputFile.TheVariants.{Primary, Secondary}
use Rattle.rpg_files.specs.Counting.{faults_of}
use Rattle.rpg_files.specs.declared.reader.ReadFault.TheVariants as reading
use Rattle.rpg_engine.specs.Inputs.{HasTooMany, OfInputs, bytes_of_input}
use Rattle.rpg_engine.specs.declared.fault.RunFault.{RunFault}
use Rattle.rpg_engine.specs.declared.fault.RunFault.TheVariants as faults
use Rattle.rpg_engine.specs.declared.files.OutputFile.{OutputFile}
use Rattle.rpg_engine.specs.declared.files.OutputFile.TheVariants.{Print, Disk}
use Rattle.rpg_engine.specs.declared.files.Readers.{Readers}
use Rattle.rpg_engine.specs.declared.files.Writers.{Writers}

-- a device of a job: the reader or the writer of a file
pub data Device : Type 0 where
  Reader : InputFile → Device
  Writer : OutputFile → Device

-- how many calls of each device have failed
abbrev pub Counts : Type 0
Counts = Device → ℕ

-- how often the writer of a file has failed
abbrev pub write_faults : {P D : Type 0} → Writers P D → OutputFile → ℕ
write_faults writers Print = faults_of writers.printer
write_faults writers Disk = faults_of writers.disk

-- how often each device has failed
abbrev pub device_counts : {R S P D : Type 0} → Readers R S → Writers P D → Counts
device_counts readers writers (Reader Primary) = faults_of readers.primary
device_counts readers writers (Reader Secondary) = faults_of readers.secondary
device_counts readers writers (Writer file) = write_faults writers file

-- no count rose
abbrev pub NoneRises : (old new : Counts) → Type 0
NoneRises old new = (device : Device) → new device ≡ old device

-- the count of one device rose by one, and no other count rose
abbrev pub OnlyRises : (failed : Device) → (old new : Counts) → Type 0
OnlyRises failed old new = (new failed ≡ old failed + 1) × ((device : Device) → (device ≡ failed → ⊥) → new device ≡ old device)

-- A device's fault is reported exactly if its count rose by one, and too many records of a file only if its bytes have them. No other
-- count rises, so running out of memory is never reported for a device that failed.
abbrev pub FaultsAre : {X : Type 0} → Result X RunFault → (given left others rest : Option (List ℕ)) → (old new : Counts) → Type 0
FaultsAre (Err (faults.Write file sent)) given left others rest old new = OnlyRises (Writer file) old new
FaultsAre (Err (faults.Read file reading.Device)) given left others rest old new = OnlyRises (Reader file) old new
FaultsAre (Err (faults.Read file reading.TooMany)) given left others rest old new =
    NoneRises old new × OfInputs given left others rest (λ primary secondary. HasTooMany (bytes_of_input file primary secondary))
FaultsAre result given left others rest old new = NoneRises old new
