-- All results of a reader of records, over a whole input.
use Rattle.std.specs.Prelude.{◌≡◌, ℕ, ◌+◌, Bool, true, false, nat_lt, if◌then◌else◌, List, [], ◌∷◌, ◌++◌, length, take, take_while, Some, Result, Ok, Err}
use Rattle.std.specs.List.{list_all}
use Rattle.rpg_files.specs.Records.{records, is_valid, max_records}
use Rattle.rpg_files.specs.Reading.{Advances, GivesNext, Input, is_record}
use Rattle.rpg_files.specs.declared.reader.Next.{Next}
use Rattle.rpg_files.specs.declared.reader.Next.TheVariants as next
use Rattle.rpg_files.specs.declared.reader.ReadFault.{ReadFault}
use Rattle.rpg_files.specs.declared.reader.ReadFault.TheVariants as fault

-- of the records that an input may have, those before the first bad one
abbrev pub given_records : ℕ → List (List ℕ) → List (List ℕ)
given_records limit rs = take_while (is_valid limit) (take max_records rs)

-- the result after those
abbrev pub last_answer : ℕ → List (List ℕ) → Result Next ReadFault
last_answer limit rs =
    if list_all (is_valid limit) (take max_records rs) then (if nat_lt max_records (length rs) then Err fault.TooMany else Ok next.End) else Ok next.Bad

-- an input of these bytes, none of which has been read
abbrev pub input_with : List ℕ → Input
input_with bytes = record { buffered = []; ended = false; remaining = Some bytes }

-- After this many records, consecutive calls returned these records, and led from one input to another.
abbrev pub GivesAll : ℕ → ℕ → List (List ℕ) → Input → Input → Type 0
GivesAll limit count [] old new = new ≡ old
GivesAll limit count (r ∷ rs) old new =
    (mid : Input) × Advances old mid (GivesNext limit count r (Ok next.Record)) × GivesAll limit (count + 1) rs mid new

-- However short the reads are, the records that were returned are the first ones of the input.
abbrev pub FirstAnswersAreRecords : Type 0
FirstAnswersAreRecords = (limit : ℕ) (bytes : List ℕ) (rs : List (List ℕ)) (new : Input) → GivesAll limit 0 rs (input_with bytes) new
    → (more : List (List ℕ)) × (given_records limit (records bytes) ≡ rs ++ more)

-- the device failed, so what follows is unknown
abbrev pub is_device_fault : Result Next ReadFault → Bool
is_device_fault (Ok x) = false
is_device_fault (Err fault.Device) = true
is_device_fault (Err fault.TooMany) = false

-- However short the reads are, the records returned before the first other result are all of the input's, and that result is the right one
-- after them, unless the device failed.
abbrev pub AnswersAreRecords : Type 0
AnswersAreRecords = (limit : ℕ) (bytes : List ℕ) (rs : List (List ℕ)) (mid new : Input) (r : List ℕ) (last : Result Next ReadFault)
    → GivesAll limit 0 rs (input_with bytes) mid → Advances mid new (GivesNext limit (length rs) r last) → is_record last ≡ false → is_device_fault last ≡ false
    → (rs ≡ given_records limit (records bytes)) × (last ≡ last_answer limit (records bytes))
