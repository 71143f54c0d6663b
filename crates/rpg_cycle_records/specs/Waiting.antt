-- Records that wait in their files, and which of them is selected.
use Rattle.std.specs.Prelude.{ℕ, Bool, true, false, not, ◌&&◌, ◌||◌, List, Option, None, Some, is_none, is_some, if◌then◌else◌}
use Rattle.rpg_program.specs.declared.input.InputFile.{InputFile}
use Rattle.rpg_program.specs.declared.input.InputFile.TheVariants.{Primary, Secondary}
use Rattle.rpg_program.specs.Object.{Object, has_file}
use Rattle.rpg_cycle_records.specs.Earlier.{Left, Selected, any_agrees, file_at, last_of_file, match_value, value_from, with_record}
use Rattle.rpg_cycle_records.specs.Identifying.{same_file}
use Rattle.rpg_cycle_records.specs.Matching.{agrees, is_greater}

-- a file: the record that waits in it, if one does, and whether its end was read
pub record InputState : Type 0 where
  pub waiting : Option Selected
  pub is_over : Bool

-- what is known of the input files
pub record Inputs : Type 0 where
  pub primary : InputState
  pub secondary : InputState

-- nothing was read yet
abbrev pub unread : Inputs
unread = record { primary = record { waiting = None; is_over = false }; secondary = record { waiting = None; is_over = false } }

-- what is known of one of them
abbrev pub input_at : Inputs → InputFile → InputState
input_at i Primary = i.primary
input_at i Secondary = i.secondary

-- the same with one of them replaced
abbrev pub with_input : InputFile → InputState → Inputs → Inputs
with_input Primary x i = record i { primary = x }
with_input Secondary x i = record i { secondary = x }

-- the record of a file that waits
abbrev pub waiting_in : Inputs → InputFile → Option Selected
waiting_in i f = (input_at i f).waiting

-- the end of the file was read
abbrev pub with_file_over : InputFile → Inputs → Inputs
with_file_over f i = with_input f (record { waiting = None; is_over = true }) i

-- a record waits, or none does
abbrev pub with_waiting : InputFile → Option Selected → Inputs → Inputs
with_waiting f s i = with_input f (record { waiting = s; is_over = (input_at i f).is_over }) i

-- a file that exists, isn't at its end and has no waiting record reads one
abbrev pub takes_in : Object → Inputs → InputFile → Bool
takes_in p i f = has_file p f && (not (input_at i f).is_over && is_none (waiting_in i f))

-- ---- selection

-- the file whose match value goes first: the primary's if its value is missing, otherwise the secondary's if its value is, otherwise
-- the primary's unless it is greater
abbrev pub first_of : Option (List ℕ) → Option (List ℕ) → InputFile
first_of None w = Primary
first_of (Some v) None = Secondary
first_of (Some v) (Some w) = if is_greater v w then Secondary else Primary

-- by the last match value of a file that has ended, whether a record of the other file follows: its match value is the same; or it has
-- none, and the file that ended is the secondary or has had one
abbrev pub follows : InputFile → Option (List ℕ) → Option (List ℕ) → Bool
follows f last None = same_file f Secondary || is_some last
follows f last (Some v) = agrees (Some v) last

-- the file that has ended ends the job alone, and the record of the other file doesn't follow
abbrev pub is_after_end : Option InputFile → InputFile → Option (List ℕ) → Option (List ℕ) → Bool
is_after_end None f last v = false
is_after_end (Some ending) f last v = same_file ending f && not (follows f last v)

-- the file whose record is selected, if one waits and doesn't come after the end
abbrev pub chosen : Object → Left → Option Selected → Option Selected → Option InputFile
chosen p left None None = None
chosen p left (Some s) None = if is_after_end p.ends Secondary left.secondary (match_value p s) then None else Some Primary
chosen p left None (Some t) = if is_after_end p.ends Primary left.primary (match_value p t) then None else Some Secondary
chosen p left (Some s) (Some t) = Some (first_of (match_value p s) (match_value p t))

-- ---- matching records

-- the other file
abbrev pub other_file : InputFile → InputFile
other_file Primary = Secondary
other_file Secondary = Primary

-- one of the records that were read, selected earlier or waiting, is of the other file and has the record's match value
abbrev pub has_match : Object → List Selected → Inputs → Selected → Bool
has_match p earlier i s =
    any_agrees p (other_file (file_at p s)) (match_value p s) (with_record (waiting_in i (other_file (file_at p s))) earlier)

-- what a job that keeps only the last values can test: the waiting record of the other file, or the last one selected from it, has the
-- record's match value
abbrev pub waiting_value : Object → InputFile → Option Selected → Option (List ℕ)
waiting_value p f None = None
waiting_value p f (Some s) = value_from p f s

-- the record matches one of the other file: the waiting one, or the last one of that file
abbrev pub finds_match : Object → Left → Inputs → Selected → Bool
finds_match p left i s =
    agrees (match_value p s) (waiting_value p (other_file (file_at p s)) (waiting_in i (other_file (file_at p s))))
    || agrees (match_value p s) (last_of_file left (other_file (file_at p s)))
