-- What a run of a source comes to, by its cards alone: how it ends, in how many cycles, and the bytes that it prints and stores.
use Rattle.std.specs.Prelude.{◌≡◌, ◌+◌, ◌≤◌, ℕ, ℤ, List}
use Rattle.rpg_cards.specs.Keys.{key_cmp}
use Rattle.rpg_cards.specs.declared.spec_card.SpecCard.{SpecCard}
use Rattle.rpg_cycle.specs.Counting.{records_count}
use Rattle.rpg_cycle.specs.Runs.{Records}
use Rattle.rpg_cycle.specs.Stages.{job_end}
use Rattle.rpg_program.specs.Put.{Bytes}
use Rattle.rpg_program.specs.World.{World}
use Rattle.rpg_engine.specs.Inputs.{records_of}
use Rattle.rpg_engine.specs.Outputs.{Contents, HaveAll}
use Rattle.rpg_engine.specs.Reporting.{HasParts}
use Rattle.rpg_engine.specs.declared.fault.RunFault.{RunFault}
use Rattle.rpg_engine.specs.declared.report.Report.{Report}
use Rattle.rpg_meaning.specs.Jobs.Runs.{IsMeantRun, MeantCourse}
use Rattle.rpg_meaning.specs.Jobs.Sources.{job_of}
use Rattle.rpg_meaning.specs.Jobs.Start.{IsStart}

module _ (cards : List SpecCard) (allowance : ℕ) (day : ℤ) where
  -- a run of the cards over the records of both inputs, on a day
  pub record CardsRun (records : Records) (course : MeantCourse) (bytes : Bytes) : Type 0 where
    pub start : World key_cmp
    pub starts : IsStart cards day start
    pub run : IsMeantRun (job_of cards allowance) start records course bytes

  -- the cards have a run over these records, in at most one cycle more than there are records, and every other one ends alike, in as many cycles and
  -- with the same bytes
  pub record OnlyRun (records : Records) : Type 0 where
    pub course : MeantCourse
    pub bytes : Bytes
    pub run : CardsRun records course bytes
    pub few : course.cycles ≤ records_count records + 1
    pub only : (other : MeantCourse) (theirs : Bytes) → CardsRun records other theirs → (other.ending ≡ course.ending) × (other.cycles ≡ course.cycles) × (theirs ≡ bytes)

  -- the report is of the cards' run over the records of both inputs, and each writer has all of its bytes
  pub record PrintsAsMeant (report : Report) (before after : Contents) (primary secondary : List ℕ) : Type 0 where
    pub meant : OnlyRun (records_of primary secondary)
    pub ending : job_end report.ending ≡ meant.course.ending
    pub cycles : report.cycles ≡ meant.course.cycles
    pub sent : HaveAll before after meant.bytes

  -- each writer has a first part of the bytes of the cards' run over the records of both inputs, as long as the fault says
  pub record SendsPartsAsMeant (e : RunFault) (before after : Contents) (primary secondary : List ℕ) : Type 0 where
    pub meant : OnlyRun (records_of primary secondary)
    pub parts : HasParts e before after meant.bytes
