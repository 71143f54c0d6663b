-- The type of a record, among those of its file.
use Rattle.std.specs.Prelude.{ℕ, ◌+◌, ◌-◌, Bool, true, false, not, ◌&&◌, ◌==◌, nat_le, List, [], ◌∷◌, ◌++◌, length, replicate, slice_index_or, if◌then◌else◌}
use Rattle.std.specs.List.{list_all}
use Rattle.rpg_program.specs.Input.{TypeRow}
use Rattle.rpg_program.specs.declared.input.InputFile.{InputFile}
use Rattle.rpg_program.specs.declared.input.InputFile.TheVariants.{Primary, Secondary}
use Rattle.rpg_program.specs.declared.input.RecordCode.{RecordCode}
use Rattle.rpg_program.specs.Object.{Object, input_length}
use Rattle.rpg_text.specs.Texts.{is_character}

-- ---- the record

-- a record of characters that is no longer than the file's records
abbrev pub is_valid_record : Object → InputFile → List ℕ → Bool
is_valid_record p f text = nat_le (length text) (input_length p f) && list_all is_character text

-- padded with blanks to the length of the file's records
abbrev pub padded : Object → InputFile → List ℕ → List ℕ
padded p f text = text ++ replicate (input_length p f - length text) 32

-- ---- codes

-- the character at a code's position
abbrev pub character_at_code : List ℕ → RecordCode → ℕ
character_at_code text c = slice_index_or text (c.position - 1) 0

-- it is the code's character; if the code is negated, another
abbrev pub code_holds : List ℕ → RecordCode → Bool
code_holds text c = if c.is_negated then not (character_at_code text c == c.character) else character_at_code text c == c.character

-- the code's position is in the record
abbrev pub has_position : List ℕ → RecordCode → Bool
has_position text c = nat_le 1 c.position && nat_le c.position (length text)

-- ---- types

-- two files are the same
abbrev pub same_file : InputFile → InputFile → Bool
same_file Primary Primary = true
same_file Primary Secondary = false
same_file Secondary Primary = false
same_file Secondary Secondary = true

-- the result of trying record types
pub data Trial : Type 0 where
  IsOf : ℕ → Trial  -- the first type of the file all of whose codes hold; the first row is 0
  IsOfNone : Trial
  Misplaced : Trial  -- a type that was tried has a code on a column that isn't there

-- the types of a file are tried in order; rows are numbered from here on
abbrev pub identified : InputFile → ℕ → List (TypeRow ℕ) → List ℕ → Trial
identified f n [] text = IsOfNone
identified f n (t ∷ ts) text =
    if not (same_file t.file f) then identified f (n + 1) ts text
    else (if list_all (has_position text) t.codes then (if list_all (code_holds text) t.codes then IsOf n else identified f (n + 1) ts text)
    else Misplaced)

-- all codes of each type that was tried weigh 1
abbrev pub trial_weight : InputFile → List (TypeRow ℕ) → List ℕ → ℕ
trial_weight f [] text = 0
trial_weight f (t ∷ ts) text =
    if not (same_file t.file f) then trial_weight f ts text
    else (if list_all (has_position text) t.codes && not (list_all (code_holds text) t.codes) then length t.codes + trial_weight f ts text
    else length t.codes)
