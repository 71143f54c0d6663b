-- What a job keeps of its files.
use Rattle.std.specs.Prelude.{◌≡◌, ℕ, ◌<◌, Bool, not, ◌&&◌, ◌||◌, All, List, [], Option, None, Some, slice_get, length, is_none, is_some}
use Rattle.std.specs.Option.{ForSome}
use Rattle.rpg_cycle_records.specs.Earlier.{Selected, file_of, match_value}
use Rattle.rpg_cycle_records.specs.Fitting.{IsFilledAs}
use Rattle.rpg_cycle_records.specs.Keeping.{selected_as, seen_value}
use Rattle.rpg_cycle_records.specs.Matching.{agrees}
use Rattle.rpg_cycle_records.specs.Waiting.{InputState, Inputs}
use Rattle.rpg_cycle_records.specs.declared.files.KeptFile.{KeptFile}
use Rattle.rpg_cycle_records.specs.declared.kept.Kept.{Kept}
use Rattle.rpg_cycle_records.specs.declared.matching.MatchValue.{MatchValue}
use Rattle.rpg_program.specs.declared.input.InputFile.{InputFile}
use Rattle.rpg_program.specs.declared.input.InputFile.TheVariants.{Primary, Secondary}
use Rattle.rpg_program.specs.Kept.{IsCharacter}
use Rattle.rpg_program.specs.Object.{Object, has_file}

-- the record that a file holds, as one of that type
abbrev pub record_as : ℕ → KeptFile → Selected
record_as t k = record { type = t; text = k.record.items }

-- what is known of an input file
abbrev pub input_state_of : KeptFile → InputState
input_state_of k = record { waiting = selected_as k.waiting k.record.items; is_over = k.is_over }

-- what is known of both input files
abbrev pub inputs_of : Kept → Inputs
inputs_of k = record { primary = input_state_of k.primary; secondary = input_state_of k.secondary }

-- the record that was read last from a file
abbrev pub last_record_in : Kept → InputFile → List ℕ
last_record_in k Primary = k.primary.record.items
last_record_in k Secondary = k.secondary.record.items

-- the record of a type that was selected, if one was
abbrev pub text_in : Object → Kept → Option ℕ → List ℕ
text_in p k None = []
text_in p k (Some t) = last_record_in k (file_of (slice_get p.types t))

-- the record that a type's file holds, as one of that type
abbrev pub record_of_type : Object → Kept → ℕ → Selected
record_of_type p k t = record { type = t; text = text_in p k (Some t) }

-- what is kept of a file
abbrev pub kept_at : Kept → InputFile → KeptFile
kept_at k Primary = k.primary
kept_at k Secondary = k.secondary

-- a file that exists, isn't at its end and has no waiting record reads one
abbrev pub takes_from : Object → InputFile → InputState → Bool
takes_from p f i = has_file p f && (not i.is_over && is_none i.waiting)

-- a match value is that of the record that waits in a file, or the file's last one
abbrev pub matches_file : MatchValue → KeptFile → MatchValue → Bool
matches_file v k last = (is_some k.waiting && agrees (seen_value v) (seen_value k.value)) || agrees (seen_value v) (seen_value last)

-- a file holds a record of that type, with its match value
pub record HoldsRecord (p : Object) (f : InputFile) (k : KeptFile) (t : ℕ) : Type 0 where
  pub there : t < length p.types
  pub own : file_of (slice_get p.types t) ≡ f
  pub whole : IsFilledAs p t k.record.items
  pub characters : All IsCharacter k.record.items
  pub value : seen_value k.value ≡ match_value p (record_as t k)

-- the record that waits, if any, is held this way
abbrev pub IsFileKept : Object → InputFile → KeptFile → Type 0
IsFileKept p f k = ForSome k.waiting (λ t. HoldsRecord p f k t)

-- what is kept fits the program
pub record AreFilesKept (p : Object) (k : Kept) : Type 0 where
  pub primary : IsFileKept p Primary k.primary
  pub secondary : IsFileKept p Secondary k.secondary

-- the selected record, if any, is the one that its file holds
abbrev pub HoldsSelected : Object → Kept → Option ℕ → Type 0
HoldsSelected p k t = ForSome t (λ n. HoldsRecord p (file_of (slice_get p.types n)) (kept_at k (file_of (slice_get p.types n))) n)
