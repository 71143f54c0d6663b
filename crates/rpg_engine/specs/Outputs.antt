-- The files that a run writes to, in the order in which they are sent, and what they hold.
use Rattle.std.specs.Prelude.{ℕ, List, Option}
use Rattle.std.specs.Io.KnownBytes.{Appends}
use Rattle.std.specs.Ordering.{nat_cmp}
use Rattle.std.specs.declared.cmp.Ordering.{Ordering}
use Rattle.rpg_files.specs.Sending.{AppendsPrefix}
use Rattle.rpg_program.specs.Put.{Bytes}
use Rattle.rpg_engine.specs.declared.files.OutputFile.{OutputFile}
use Rattle.rpg_engine.specs.declared.files.OutputFile.TheVariants.{Print, Disk}

-- what each file has
abbrev pub Contents : Type 0
Contents = OutputFile → Option (List ℕ)

-- the bytes of an output that are for a file
abbrev pub bytes_for : OutputFile → Bytes → List ℕ
bytes_for Print bytes = bytes.print
bytes_for Disk bytes = bytes.disk

-- these lines and these records
abbrev pub bytes_with : (lines records : List ℕ) → Bytes
bytes_with lines records = record { print = lines; disk = records }

-- how many files are sent before a file: the printer is the first
abbrev pub turn : OutputFile → ℕ
turn Print = 0
turn Disk = 1

-- the order in which two files are sent
abbrev pub order : (file other : OutputFile) → Ordering
order file other = nat_cmp (turn file) (turn other)

-- each file has all of its bytes
abbrev pub HaveAll : (before after : Contents) → Bytes → Type 0
HaveAll before after bytes = (file : OutputFile) → Appends (before file) (after file) (bytes_for file bytes)

-- each file has a prefix of its bytes
abbrev pub HaveParts : (before after : Contents) → Bytes → Type 0
HaveParts before after bytes = (file : OutputFile) → AppendsPrefix (before file) (after file) (bytes_for file bytes)
