-- The context of a whole job: what the cards of a source say, by name.
use Rattle.std.specs.Prelude.{ℕ, List, Option}
use Rattle.rpg_cards.specs.Keys.{Key, key_cmp}
use Rattle.rpg_program.specs.Input.{TypeRow}
use Rattle.rpg_program.specs.World.{World}
use Rattle.rpg_program.specs.declared.input.InputFile.{InputFile}
use Rattle.rpg_meaning.specs.Calculations.Meaning.{Source}
use Rattle.rpg_cycle_records.specs.Earlier.{Selected}
use Rattle.rpg_cycle_records.specs.Waiting.{Inputs}

-- fields, lines and calculations, the record types, the lengths of the records of both files, 0 if there is no secondary file, the one that
-- ends the job alone, if one does, and what a cycle may spend
pub record Job : Type 0 where
  pub source : Source
  pub types : List (TypeRow Key)
  pub record_length : ℕ
  pub secondary_length : ℕ
  pub ends : Option InputFile
  pub allowance : ℕ

-- a cycle in progress: the values by name and everything else that it changes, the remaining allowance, the files, and the record that was
-- selected
pub record JobState : Type 0 where
  pub world : World key_cmp
  pub allowance : ℕ
  pub inputs : Inputs
  pub selected : Option Selected
