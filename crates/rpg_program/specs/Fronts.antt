-- Earlier output isn't lost by later output, whether or not that succeeds.
use Rattle.std.specs.Prelude.{◌≡◌, ◌++◌}
use Rattle.rpg_program.specs.Put.{Bytes}

-- an output only grew: more bytes follow those that it had
pub record OnlyGrows (old new : Bytes) : Type 0 where
  pub more : Bytes
  pub print : new.print ≡ old.print ++ more.print
  pub disk : new.disk ≡ old.disk ++ more.disk
