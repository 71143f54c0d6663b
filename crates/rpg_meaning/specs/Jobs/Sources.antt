-- The job of a source and an allowance, and what it means that a program does it.
use Rattle.std.specs.Prelude.{◌≡◌, ℕ, ℤ, List, Some}
use Rattle.rpg_cards.specs.Keys.{key_cmp}
use Rattle.rpg_cards.specs.declared.spec_card.SpecCard.{SpecCard}
use Rattle.rpg_cycle.specs.Job.{first_fields}
use Rattle.rpg_cycle.specs.Runs as machine
use Rattle.rpg_cycle.specs.Starting.{date_in}
use Rattle.rpg_program.specs.Put.{Bytes}
use Rattle.rpg_program.specs.World.{World}
use Rattle.rpg_meaning.specs.Sheets.Files.{is_primary, is_secondary, file_record_length, meant_ends, the_file}
use Rattle.rpg_meaning.specs.Sheets.RecordTypes.{meant_types}
use Rattle.rpg_meaning.specs.Jobs.Job.{Job}
use Rattle.rpg_meaning.specs.Jobs.Runs.{IsMeantRun, MeantCourse}
use Rattle.rpg_meaning.specs.Jobs.Start.{IsStart}
use Rattle.rpg_meaning.specs.Calculations.Sources.{source_of}
use Rattle.rpg_compile_program.specs.Program.{program_of}

-- what the cards of a source mean, with the allowance of a cycle
abbrev pub job_of : List SpecCard → ℕ → Job
job_of cards allowance = record {
  source = source_of cards;
  types = meant_types cards;
  record_length = file_record_length (the_file is_primary cards);
  secondary_length = file_record_length (the_file is_secondary cards);
  ends = meant_ends cards;
  allowance = allowance;
}

-- the run of the program is the run of the cards: the same end, as many cycles, and the same bytes
pub record IsMeant (cards : List SpecCard) (allowance : ℕ) (w : World key_cmp) (records : machine.Records) (course : machine.Course) (bytes : Bytes) : Type 0 where
  pub meant : MeantCourse
  pub run : IsMeantRun (job_of cards allowance) w records meant bytes
  pub ending : course.ending ≡ meant.ending
  pub cycles : course.cycles ≡ meant.cycles

-- each run of the program over records on a date is the run of the cards from the values that they start with
abbrev pub RunsAreMeant : List SpecCard → ℕ → ℤ → Type 0
RunsAreMeant cards allowance date =
    (w : World key_cmp) → IsStart cards date w
    → (records : machine.Records) (course : machine.Course) (bytes : Bytes) → machine.IsRun (program_of cards allowance) date (first_fields (program_of cards allowance)) records course bytes
    → IsMeant cards allowance w records course bytes

-- a date that a text of six digits gives
abbrev pub IsDate : ℤ → Type 0
IsDate date = (text : List ℕ) × (date_in text ≡ Some date)

-- a job has one run
abbrev pub MeantRunsAreOne : Type 0
MeantRunsAreOne = (job : Job) (w : World key_cmp) (records : machine.Records) (k l : MeantCourse) (a b : Bytes) → IsMeantRun job w records k a → IsMeantRun job w records l b → (k ≡ l) × (a ≡ b)
