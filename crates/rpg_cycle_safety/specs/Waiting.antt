-- Records that wait in their files, well kept.
use Rattle.std.specs.Option.{ForSome}
use Rattle.std.specs.Prelude.{◌≡◌, ◌<◌, All, length}
use Rattle.rpg_cycle_records.specs.Earlier.{Selected, file_at}
use Rattle.rpg_cycle_records.specs.Waiting.{Inputs}
use Rattle.rpg_program.specs.declared.input.InputFile.{InputFile}
use Rattle.rpg_program.specs.declared.input.InputFile.TheVariants.{Primary, Secondary}
use Rattle.rpg_program.specs.Kept.{IsCharacter}
use Rattle.rpg_program.specs.Object.{Object, input_length}

-- a record is of a type of the file, has the length of the file's records, and consists
-- of characters
pub record IsWaitingIn (p : Object) (f : InputFile) (s : Selected) : Type 0 where
  pub there : s.type < length p.types
  pub own : file_at p s ≡ f
  pub long : length s.text ≡ input_length p f
  pub characters : All IsCharacter s.text

-- so is the waiting record of each file, if there is one
pub record AreWaiting (p : Object) (i : Inputs) : Type 0 where
  pub primary : ForSome i.primary.waiting (λ s. IsWaitingIn p Primary s)
  pub secondary : ForSome i.secondary.waiting (λ s. IsWaitingIn p Secondary s)
