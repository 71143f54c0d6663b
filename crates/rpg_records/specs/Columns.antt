-- A record's columns as characters, by the contents of each column.
use Rattle.std.specs.Prelude.{◌≡◌, ℕ, ◌/◌, ◌%◌, ◌<◌, ◌==◌, ◌&&◌, not, Bool, true, false, if◌then◌else◌, List, [], ◌∷◌, slice_index}
use Rattle.rpg_text.specs.Texts.{is_character}
use Rattle.rpg_records.specs.CodePage.{byte_of, character_of, last_place_of}
use Rattle.rpg_records.specs.declared.column.Column.{Column}
use Rattle.rpg_records.specs.declared.column.Column.TheVariants as columns
use Rattle.rpg_records.specs.declared.translation.Page.{Page}
use Rattle.rpg_records.specs.declared.translation.Page.TheVariants as pages

-- the character of a byte, 0 for none
abbrev pub page_character : Page → ℕ → ℕ
page_character pages.Ebcdic b = character_of b
page_character pages.Ascii b = if is_character b then b else 0

-- the character for the last place of a number
abbrev pub last_place_character : Page → ℕ → ℕ
last_place_character pages.Ebcdic b = last_place_of b
last_place_character pages.Ascii b = page_character pages.Ascii b

-- a blank if a byte isn't a character
abbrev pub blank_for_none : ℕ → ℕ
blank_for_none c = if c == 0 then 32 else c

-- the character of a byte by the contents of its column
abbrev pub kind_character : Page → Column → ℕ → ℕ
kind_character page columns.Text b = page_character page b
kind_character page columns.LastPlace b = last_place_character page b
kind_character page columns.Number b = 32
kind_character page columns.Unnamed b = blank_for_none (page_character page b)

-- the same if the byte 0 may be a blank
abbrev pub column_character : Page → Bool → Column → ℕ → ℕ
column_character page low_blank kind b = if low_blank && b == 0 then 32 else kind_character page kind b

-- the characters of a record's bytes; 0 for none
abbrev pub image : Page → Bool → List Column → List ℕ → List ℕ
image page low_blank [] bytes = []
image page low_blank (k ∷ ks) [] = []
image page low_blank (k ∷ ks) (b ∷ bs) = column_character page low_blank k b ∷ image page low_blank ks bs

-- the byte of a character
abbrev pub page_byte : Page → ℕ → ℕ
page_byte pages.Ebcdic c = byte_of c
page_byte pages.Ascii c = c

-- a byte of a packed or binary field
abbrev pub is_number_column : Column → Bool
is_number_column columns.Text = false
is_number_column columns.LastPlace = false
is_number_column columns.Number = true
is_number_column columns.Unnamed = false

-- the character of a byte is written as that byte again: not if its zone in a last place is another one of the same sign, or if an unnamed column's byte has none
abbrev pub is_written_again : Page → Column → ℕ → Bool
is_written_again page columns.Text b = true
is_written_again page columns.LastPlace b = last_place_character page b == page_character page b
is_written_again page columns.Number b = true
is_written_again page columns.Unnamed b = not (page_character page b == 0)

-- ---- a table of characters

-- the number of a kind of columns
abbrev pub column_kind_number : Column → ℕ
column_kind_number columns.Text = 0
column_kind_number columns.LastPlace = 1
column_kind_number columns.Number = 2
column_kind_number columns.Unnamed = 3

-- the kind of column with that number
abbrev pub column_at : ℕ → Column
column_at row = if row == 0 then columns.Text else (if row == 1 then columns.LastPlace else (if row == 2 then columns.Number else columns.Unnamed))

-- the characters of the bytes 0 to 255 in each kind of column, one kind after another
abbrev pub HoldsCharacters : Page → Bool → List ℕ → Type 0
HoldsCharacters page low_blank table = (k : ℕ) → k < 1024 → slice_index table k ≡ column_character page low_blank (column_at (k / 256)) (k % 256)
