-- What holds of two inputs after some bytes of each were read.
use Rattle.std.specs.Prelude.{◌≡◌, ℕ, ◌<◌, Bool, true, List, ◌++◌, length, Option}
use Rattle.std.specs.Io.KnownBytes.{Consumes, IsAtEnd}
use Rattle.rpg_cycle.specs.Runs.{Records}
use Rattle.rpg_program.specs.declared.input.InputFile.{InputFile}
use Rattle.rpg_program.specs.declared.input.InputFile.TheVariants.{Primary, Secondary}
use Rattle.rpg_files.specs.NextLine.{CanFollow}
use Rattle.rpg_files.specs.Records.{max_records, records}

-- of an input with `given` bytes at first and `left` bytes now, these were read, and its end if that was seen
pub record WasRead (given left : Option (List ℕ)) : Type 0 where
  pub read : List ℕ
  pub ended : Bool
  pub consumed : Consumes given left read
  pub at_end : ended ≡ true → IsAtEnd left

-- These bytes were read from a primary and a secondary input, and Fact holds of any two inputs that begin with what was read from them; if
-- the end of one was seen, only of that one.
pub record OfInputs (given left others rest : Option (List ℕ)) (Fact : List ℕ → List ℕ → Type 0) : Type 0 where
  pub primary : WasRead given left
  pub secondary : WasRead others rest
  pub fact : (more following : List ℕ) → CanFollow primary.ended more → CanFollow secondary.ended following → Fact (primary.read ++ more) (secondary.read ++ following)

-- what was read of an input, and whether its end was seen
pub record Front : Type 0 where
  pub read : List ℕ
  pub ended : Bool

-- what has been read of an input
abbrev pub front_of : {given left : Option (List ℕ)} → WasRead given left → Front
front_of w = record { read = w.read; ended = w.ended }

-- This much was read from a primary and a secondary input, and Fact holds of it.
pub record OfFronts (given left others rest : Option (List ℕ)) (Fact : Front → Front → Type 0) : Type 0 where
  pub primary : WasRead given left
  pub secondary : WasRead others rest
  pub fact : Fact (front_of primary) (front_of secondary)

-- Fact holds of any two inputs that begin this way.
abbrev pub OfEach : Front → Front → (List ℕ → List ℕ → Type 0) → Type 0
OfEach a b Fact = (more following : List ℕ) → CanFollow a.ended more → CanFollow b.ended following → Fact (a.read ++ more) (b.read ++ following)

-- the bytes of one of two inputs
abbrev pub bytes_of_input : InputFile → (primary secondary : List ℕ) → List ℕ
bytes_of_input Primary primary secondary = primary
bytes_of_input Secondary primary secondary = secondary

-- the records of both
abbrev pub records_of : List ℕ → List ℕ → Records
records_of primary secondary = record { primary = records primary; secondary = records secondary }

-- it has more records than an input may have
abbrev pub HasTooMany : List ℕ → Type 0
HasTooMany bytes = max_records < length (records bytes)
