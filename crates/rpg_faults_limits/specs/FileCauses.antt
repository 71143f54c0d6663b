-- F7, and F9 of lines: which file a card is about, what is wrong with it, and which F card it is on.
use Rattle.std.specs.Prelude.{ℕ, List, [], ◌∷◌, Bool, nat_eq, Option, None, Some, is_some, option_and_then, if◌then◌else◌, nat_lt}
use Rattle.std.specs.Cmp.Lexicographic.{pointwise}
use Rattle.std.specs.List.{slice_get}
use Rattle.std.specs.Option.{option_map, option_map_or, option_or}
use Rattle.rpg_cards.specs.Cards.{file_on, form_on, output_record_on, type_on}
use Rattle.rpg_cards.specs.Files.{file_use, is_input, is_output, same_use}
use Rattle.rpg_cards.specs.Groups.{input_role, open_file, open_group, output_role}
use Rattle.rpg_cards.specs.declared.files.FileUse.{FileUse}
use Rattle.rpg_cards.specs.declared.files.FileUse.TheVariants.{Disk, Printer}
use Rattle.rpg_cards.specs.declared.spec_card.SpecCard.{SpecCard}
use Rattle.rpg_faults_limits.specs.declared.files.FileCause.{FileCause}
use Rattle.rpg_faults_limits.specs.declared.files.FileCause.TheVariants.{Length, OverflowPast, Second, SecondForm, Twice, Unknown, Unnamed, WrongUse}
use Rattle.rpg_faults_limits.specs.declared.files.FileOnCard.{FileOnCard}
use Rattle.rpg_faults_limits.specs.declared.files.FileUser.{FileUser}
use Rattle.rpg_faults_limits.specs.declared.files.FileUser.TheVariants as user
use Rattle.rpg_faults_limits.specs.Files.{first_form, longest_in_file, moves}
use Rattle.rpg_sheet_specs.specs.declared.column_range.ColumnRange.{ColumnRange}
use Rattle.rpg_sheet_specs.specs.declared.column_range.ColumnRange.TheVariants as range
use Rattle.rpg_sheet_specs.specs.declared.file.FileSpec.{FileSpec}
use Rattle.rpg_sheet_specs.specs.declared.form.FormSpec.{FormSpec}
use Rattle.rpg_sheet_specs.specs.declared.output.Movement.{Movement}
use Rattle.rpg_sheet_specs.specs.declared.output.OutputRecord.{OutputRecord}
use Rattle.rpg_text.specs.Texts.{is_between}

-- ---- the F card of a file

-- the file of an F card, with the card's number
abbrev pub file_with : SpecCard → FileSpec → FileOnCard
file_with c f = record { card = c.number; name = f.name; serves_as = file_use f; record_length = f.record_length }

-- that of the F card at a place
abbrev pub placed_file : List SpecCard → Option ℕ → Option FileOnCard
placed_file cards place = option_and_then (λ c. option_map (file_with c) (file_on c.spec)) (option_and_then (slice_get cards) place)

-- the file of a card, if it passes a test
abbrev pub file_if : (FileSpec → Bool) → SpecCard → Option FileOnCard
file_if test c = option_and_then (λ f. if test f then Some (file_with c f) else None) (file_on c.spec)

-- the first file that passes a test
abbrev pub first_file_with_card : (FileSpec → Bool) → List SpecCard → Option FileOnCard
first_file_with_card test [] = None
first_file_with_card test (c ∷ cs) = option_or (file_if test c) (first_file_with_card test cs)

-- the first file of a name
abbrev pub file_of_name : List ℕ → List SpecCard → Option FileOnCard
file_of_name name cards = first_file_with_card (λ f. pointwise nat_eq name f.name) cards

-- the first file of a use
abbrev pub file_of_use : FileUse → List SpecCard → Option FileOnCard
file_of_use u cards = first_file_with_card (λ f. same_use u (file_use f)) cards

-- ---- F7

-- a length that no record, or no line, has
abbrev pub of_length : FileUse → ℕ → Option FileCause
of_length u n = if is_between 1 (longest_in_file u) n then None else Some (Length u n)

-- for an F card: the file that has its name, the one of its use, or what is wrong with the card itself
abbrev pub of_file : List SpecCard → FileSpec → Option FileCause
of_file before f =
    option_or (option_map Twice (file_of_name f.name before))
    (option_or (option_map (Second f.name) (file_of_use (file_use f) before))
    (of_length (file_use f) f.record_length))

-- the use of the file that a card of this kind may name
abbrev pub fits : FileUser → FileUse → Bool
fits user.RecordType = is_input
fits user.Line = is_output
fits user.Form = same_use Printer

-- a file that a record type, a line or an L card may not have
abbrev pub of_known : FileUser → FileOnCard → Option FileCause
of_known who f = if fits who f.serves_as then None else Some (WrongUse who f)

-- no F card has the name
abbrev pub unknown : FileUser → List ℕ → FileCause
unknown who name = Unknown who name

-- of the file that a card names
abbrev pub of_named : List SpecCard → FileUser → List ℕ → Option FileCause
of_named cards who name = option_map_or (of_known who) (file_of_name name cards) (Some (unknown who name))

-- of a card that names a file, or leaves it out after another card of its kind
abbrev pub of_user : List SpecCard → FileUser → Bool → Option (List ℕ) → Option FileCause
of_user cards who is_following None = if is_following then None else Some (Unnamed who)
of_user cards who is_following (Some name) = of_named cards who name

-- an overflow line behind the page
abbrev pub of_page : ℕ → ℕ → Option FileCause
of_page lines line = if nat_lt lines line then Some (OverflowPast line lines) else None

-- for an L card: its file, the L card before it, or the overflow line
abbrev pub of_form : List SpecCard → List SpecCard → FormSpec → Option FileCause
of_form cards before f =
    option_or (of_named cards user.Form f.file)
    (option_or (option_map (λ c. SecondForm c.number) (first_form before))
    (of_page f.lines f.overflow_line))

-- F7 of a card
abbrev pub file_cause : List SpecCard → List SpecCard → SpecCard → Option FileCause
file_cause cards before c =
    option_or (option_and_then (of_file before) (file_on c.spec))
    (option_or (option_and_then (λ t. of_user cards user.RecordType (is_some (open_group input_role before)) t.file) (type_on c.spec))
    (option_or (option_and_then (λ r. of_user cards user.Line (is_some (open_group output_role before)) r.file) (output_record_on c.spec))
    (option_and_then (of_form cards before) (form_on c.spec))))

-- ---- F9 of lines

-- the file of a line: the one that it names, otherwise that of the previous line
abbrev pub file_of_line : List SpecCard → List SpecCard → Option (List ℕ) → Option FileOnCard
file_of_line cards before name = option_and_then (λ n. file_of_name n cards) (option_or name (open_file output_role before))

-- it has that use
abbrev pub serves : FileUse → FileOnCard → Bool
serves u f = same_use u f.serves_as

-- the disk file
abbrev pub if_disk : FileOnCard → Option FileOnCard
if_disk f = if serves Disk f then Some f else None

-- the disk file, if a line of it has spaces or skips
abbrev pub moved_disk : List SpecCard → List SpecCard → OutputRecord → Option FileOnCard
moved_disk cards before r = if moves r.movement then option_and_then if_disk (file_of_line cards before r.file) else None

-- ---- the columns that a cause is about

-- those that give a file its use
abbrev pub use_range : FileUse → ColumnRange
use_range Printer = range.Device
use_range Disk = range.Device
use_range _ = range.FileType

-- those in which a card names its file
abbrev pub user_range : FileUser → ColumnRange
user_range user.RecordType = range.TypeFile
user_range user.Line = range.LineFile
user_range user.Form = range.FormFile

-- F7: the name of a file, its use, its record length, the name on another card, or the overflow line
abbrev pub file_range : FileCause → ColumnRange
file_range (Twice f) = range.FileName
file_range (Second name first) = use_range first.serves_as
file_range (Length serves_as length) = range.RecordLength
file_range (Unnamed who) = user_range who
file_range (Unknown who name) = user_range who
file_range (WrongUse who f) = user_range who
file_range (SecondForm card) = range.FormFile
file_range (OverflowPast line lines) = range.OverflowLine

-- the first space or skip that is there
abbrev pub first_movement : Movement → ColumnRange
first_movement m =
    if is_some m.space_before then range.SpaceBefore
    else if is_some m.space_after then range.SpaceAfter
    else if is_some m.skip_before then range.SkipBefore
    else range.SkipAfter

-- F9 of a line of the disk file
abbrev pub movement_range : SpecCard → Option ColumnRange
movement_range c = option_map (λ (r : OutputRecord). first_movement r.movement) (output_record_on c.spec)
