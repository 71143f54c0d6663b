-- A record reader as its callers see it.
use Rattle.std.specs.Prelude.{◌≡◌, ℕ, ◌+◌, ◌<◌, ◌&&◌, ◌||◌, nat_le, nat_lt, Bool, true, false, List, [], ◌∷◌, ◌++◌, length, take, drop, Option, Result, Ok, Err}
use Rattle.std.specs.Io.KnownBytes.{Consumes, IsAtEnd}
use Rattle.rpg_text.specs.Lines.{is_line}
use Rattle.rpg_files.specs.Buffers.{left_in}
use Rattle.rpg_files.specs.Counting.{device_of, faults_of}
use Rattle.rpg_files.specs.NextLine.{CanFollow}
use Rattle.rpg_files.specs.Records.{records, is_valid, BeginsBad, max_records}
use Rattle.rpg_files.specs.declared.counting.Counted.{Counted}
use Rattle.rpg_files.specs.declared.reader.Next.{Next}
use Rattle.rpg_files.specs.declared.reader.Next.TheVariants as next
use Rattle.rpg_files.specs.declared.reader.ReadFault.{ReadFault}
use Rattle.rpg_files.specs.declared.reader.ReadFault.TheVariants as fault
use Rattle.rpg_files.specs.declared.reader.RecordReader.{RecordReader}
use Rattle.rpg_files.specs.declared.reader.RecordRoom.{RecordRoom}

-- the most bytes of a record that there is room for
abbrev pub room_limit : RecordRoom → ℕ
room_limit r = r.limit

-- ---- its state

-- the reader that it reads from
abbrev pub reader_of : {R : Type 0} → RecordReader R → Counted R
reader_of r = r.reader.now

-- the last record
abbrev pub record_of : {R : Type 0} → RecordReader R → List ℕ
record_of r = take r.len (left_in r.buffer)

-- the most bytes of a record
abbrev pub limit_of : {R : Type 0} → RecordReader R → ℕ
limit_of r = r.limit

-- how many records it has returned
abbrev pub count_of : {R : Type 0} → RecordReader R → ℕ
count_of r = r.count

-- its last result
abbrev pub answer_of : {R : Type 0} → RecordReader R → Result Next ReadFault
answer_of r = r.answer

-- the bytes that were read but not yet consumed
abbrev pub buffered_of : {R : Type 0} → RecordReader R → List ℕ
buffered_of r = drop r.line_len (left_in r.buffer)

-- whether it has seen the end of the input
abbrev pub has_ended : {R : Type 0} → RecordReader R → Bool
has_ended r = r.is_ended

-- the rest of an input: the bytes that were read but not yet consumed, whether the end was seen, and what the device has left, if its bytes
-- are known
pub record Input : Type 0 where
  pub buffered : List ℕ
  pub ended : Bool
  pub remaining : Option (List ℕ)

-- what a reader has read but not yet consumed, and what its device has left
abbrev pub input_of : {R : Type 0} → (R → Option (List ℕ)) → RecordReader R → Input
input_of remaining r = record { buffered = buffered_of r; ended = has_ended r; remaining = remaining (device_of (reader_of r)) }

-- the next call can't fail: fewer records than an input may have were returned, and either the end of the input was seen, or the buffer has
-- enough bytes for the longest line, with a carriage return and a line feed
abbrev pub cannot_fail : {R : Type 0} → RecordReader R → Bool
cannot_fail r = nat_lt r.count max_records && (r.is_ended || nat_le (r.limit + 2) (length (buffered_of r)))

-- ---- a call

-- the call returned a record
abbrev pub is_record : Result Next ReadFault → Bool
is_record (Ok next.Record) = true
is_record (Ok next.Bad) = false
is_record (Ok next.End) = false
is_record (Err e) = false

-- After this many records, a call returned this record and this result: these bytes were left before the call, and these after it.
abbrev pub GivesNext : ℕ → ℕ → List ℕ → Result Next ReadFault → List ℕ → List ℕ → Type 0
GivesNext limit count record_bytes (Ok next.Record) old new = (count < max_records) × (is_valid limit record_bytes ≡ true) × (records old ≡ record_bytes ∷ records new)
GivesNext limit count record_bytes (Ok next.Bad) old new = (count < max_records) × BeginsBad limit old
GivesNext limit count record_bytes (Ok next.End) old new = (old ≡ []) × (new ≡ [])
GivesNext limit count record_bytes (Err fault.TooMany) old new = (count ≡ max_records) × (0 < length old)
GivesNext limit count record_bytes (Err fault.Device) old new = old ≡ new

-- Some bytes were read after the buffered ones, none once the end was seen. Whatever follows these, Fact holds of all bytes that were left
-- before and of those that are left now.
pub record Advances (old new : Input) (Fact : List ℕ → List ℕ → Type 0) : Type 0 where
  pub read : List ℕ
  pub consumed : Consumes old.remaining new.remaining read
  pub none_at_end : old.ended ≡ true → (read ≡ []) × (new.ended ≡ true)
  pub at_end : new.ended ≡ true → (old.ended ≡ true → IsAtEnd old.remaining) → IsAtEnd new.remaining
  pub fact : (more : List ℕ) → CanFollow new.ended more → Fact (old.buffered ++ (read ++ more)) (new.buffered ++ more)

-- one more if a record was returned
abbrev pub count_after : ℕ → Result Next ReadFault → ℕ
count_after n (Ok next.Record) = n + 1
count_after n (Ok next.Bad) = n
count_after n (Ok next.End) = n
count_after n (Err e) = n

-- one more if the device failed
abbrev pub device_faults_after : ℕ → Result Next ReadFault → ℕ
device_faults_after n (Ok x) = n
device_faults_after n (Err fault.Device) = n + 1
device_faults_after n (Err fault.TooMany) = n

-- a call of `next` after a record; if the device failed, the buffer has no complete line
pub record ReadsNext {R : Type 0} (remaining : R → Option (List ℕ)) (old : RecordReader R) (answer : Result Next ReadFault) (new : RecordReader R) : Type 0 where
  pub limit : limit_of new ≡ limit_of old
  pub count : count_of new ≡ count_after (count_of old) answer
  pub faults : faults_of (reader_of new) ≡ device_faults_after (faults_of (reader_of old)) answer
  pub input : Advances (input_of remaining old) (input_of remaining new) (GivesNext (limit_of old) (count_of old) (record_of new) answer)
  pub waits : answer ≡ Err fault.Device → is_line (buffered_of new) ≡ true

-- a reader that has read nothing, for records of at most this many bytes
pub record IsFresh {R : Type 0} (bytes : ℕ) (r : RecordReader R) : Type 0 where
  pub limit : limit_of r ≡ bytes
  pub count : count_of r ≡ 0
  pub buffered : buffered_of r ≡ []
  pub ended : has_ended r ≡ false
  pub answer : is_record (answer_of r) ≡ true
