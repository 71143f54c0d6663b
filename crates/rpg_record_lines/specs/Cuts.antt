-- What comes next in an input.
use Rattle.std.specs.Prelude.{ℕ, ◌+◌, ◌-◌, ◌*◌, ◌==◌, ◌&&◌, nat_le, nat_lt, Bool, if◌then◌else◌, List, drop, length, slice_index, take}
use Rattle.std.specs.Io.BufRead.{ends_with_byte, strip_last, take_through}
use Rattle.rpg_records.specs.Sizes.{counted}
use Rattle.rpg_record_lines.specs.declared.fault.RecordFault.{RecordFault}
use Rattle.rpg_record_lines.specs.declared.fault.RecordFault.TheVariants as faults
use Rattle.rpg_record_lines.specs.declared.frames.Framing.{Framing}
use Rattle.rpg_record_lines.specs.declared.frames.Framing.TheVariants as framings

-- a record, with how many bytes of the input it takes; no more bytes; or why the bytes there aren't a record
pub data Cut : Type 0 where
  Whole : ℕ → List ℕ → Cut
  Finished : Cut
  Refused : RecordFault → Cut

-- ---- records of one length, end to end

-- the next n bytes, if there are n
abbrev pub next_of_length : ℕ → List ℕ → Cut
next_of_length n input = if nat_le n (length input) then Whole n (take n input) else (if length input == 0 then Finished else Refused (faults.Cut (length input)))

-- ---- records after their descriptor words

-- the length of a record and its word
abbrev pub described_whole : List ℕ → ℕ
described_whole word = slice_index word 0 * 256 + slice_index word 1

-- the other two bytes of a word are 0
abbrev pub is_descriptor : List ℕ → Bool
is_descriptor word = nat_le 4 (described_whole word) && (slice_index word 2 == 0 && slice_index word 3 == 0)

-- this many bytes after a word
abbrev pub after_word : ℕ → List ℕ → Cut
after_word n rest = if nat_le n (length rest) then Whole (n + 4) (take n rest) else Refused (faults.Cut (length rest + 4))

-- a record of at most this many bytes after its word
abbrev pub described_cut : ℕ → List ℕ → List ℕ → Cut
described_cut most word rest =
    if is_descriptor word then (if nat_lt most (described_whole word - 4) then Refused (faults.TooLong (described_whole word - 4)) else after_word (described_whole word - 4) rest)
    else Refused (faults.NoDescriptor word)

-- the next record with a descriptor: four bytes in front of it
abbrev pub next_described : ℕ → List ℕ → Cut
next_described most input =
    if length input == 0 then Finished else (if nat_lt (length input) 4 then Refused (faults.Cut (length input)) else described_cut most (take 4 input) (drop 4 input))

-- ---- records that are lines

-- without the line feed at its end, and the carriage return before that
abbrev pub unterminated : List ℕ → List ℕ
unterminated piece = if ends_with_byte 10 piece then strip_last 13 (strip_last 10 piece) else piece

-- a line of at most this many bytes
abbrev pub line_cut : ℕ → List ℕ → Cut
line_cut most piece =
    if length piece == 0 then Finished else (if nat_lt most (length (unterminated piece)) then Refused (faults.LongLine most) else Whole (length piece) (unterminated piece))

-- a line, which may end without a line feed, is looked for among this many bytes and two more
abbrev pub next_line : ℕ → List ℕ → Cut
next_line most input = line_cut most (take_through 10 (take (counted (most + 2)) input))

-- ----

-- the next record of at most this many bytes
abbrev pub next_cut : Framing → ℕ → List ℕ → Cut
next_cut framings.EndToEnd most input = next_of_length most input
next_cut framings.Descriptors most input = next_described most input
next_cut framings.Lines most input = next_line most input
