-- What was read from a device.
use Rattle.std.specs.Prelude.{◌≡◌, ℕ, Bool, true, List, [], ◌++◌, length, Option, Result, IfOk}
use Rattle.std.specs.Io.KnownBytes.{Consumes, IsAtEnd}
use Rattle.rpg_files.specs.Buffers.{left_in}
use Rattle.rpg_files.specs.Counting.{device_of}
use Rattle.rpg_files.specs.declared.buffer.Buffer.{Buffer}
use Rattle.rpg_files.specs.declared.counting.Counted.{Counted}

-- One read: this many bytes were added to those that were there, none only at the end of the input.
pub record Fills {E : Type 0} (before after : Option (List ℕ)) (old new : List ℕ) (result : Result ℕ E) : Type 0 where
  pub read : List ℕ
  pub consumed : Consumes before after read
  pub bytes : new ≡ old ++ read
  pub count : IfOk result (λ n. (n ≡ length read) × (n ≡ 0 → IsAtEnd after))

-- Some reads: these bytes were added to those that were there. Once the end of the input was seen nothing more is read.
pub record Reads (before after : Option (List ℕ)) (old new : List ℕ) (ended ended' : Bool) : Type 0 where
  pub read : List ℕ
  pub consumed : Consumes before after read
  pub bytes : new ≡ old ++ read
  pub none_at_end : ended ≡ true → (read ≡ []) × (ended' ≡ true)
  pub at_end : ended' ≡ true → (ended ≡ true → IsAtEnd before) → IsAtEnd after

-- some reads of a device into a buffer
abbrev pub ReadsInto : {D : Type 0} → (D → Option (List ℕ)) → (old new : Counted D) → (buffer buffer' : Buffer) → (ended ended' : Bool) → Type 0
ReadsInto remaining old new buffer buffer' ended ended' = Reads (remaining (device_of old)) (remaining (device_of new)) (left_in buffer) (left_in buffer') ended ended'
