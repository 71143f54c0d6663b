-- The cards of a source, and the sheets that they are on.
use Rattle.std.specs.Prelude.{ℕ, ◌-◌, List, [], ◌∷◌, ◌++◌, length, take, Bool, Option, None, if◌then◌else◌, ◌||◌, not, codes, replicate}
use Rattle.std.specs.Str.{bytes_eq}
use Rattle.rpg_sheet_specs.specs.declared.form_type.FormType.{FormType}
use Rattle.rpg_sheet_specs.specs.declared.form_type.FormType.TheVariants as form
use Rattle.rpg_sheet_specs.specs.Columns.{cols}
use Rattle.rpg_sheet_specs.specs.Values.{one_of}
use Rattle.rpg_text.specs.Texts.{all_blank}

-- ---- cards: a line of the source, padded with blanks

-- a line as a card of 80 columns, padded with blanks
abbrev pub card_of : List ℕ → List ℕ
card_of line = take 80 line ++ replicate (80 - length line) 32

-- the card that ends the source
abbrev pub ends_source : List ℕ → Bool
ends_source card = bytes_eq (cols 1 3 card) (codes "/* ")

-- a card that begins data
abbrev pub begins_data : List ℕ → Bool
begins_data card = bytes_eq (cols 1 3 card) (codes "** ")

-- a blank card or a comment
abbrev pub is_skipped : List ℕ → Bool
is_skipped card = all_blank card || bytes_eq (cols 7 7 card) (codes "*")

-- ---- form types

-- a sheet by its letter
abbrev pub form_type_of : List ℕ → Option FormType
form_type_of = one_of (
    (codes "H", form.Header) ∷ (codes "F", form.File) ∷ (codes "E", form.Extension) ∷ (codes "L", form.Form)
    ∷ (codes "I", form.Input) ∷ (codes "C", form.Calculation) ∷ (codes "O", form.Output) ∷ [])

-- the sheet of a card, by column 6
abbrev pub form_type : List ℕ → Option FormType
form_type card = form_type_of (cols 6 6 card)

-- a card that must have a form type; `data_begun` says whether one before it begins data
abbrev pub is_sheet : Bool → List ℕ → Bool
is_sheet data_begun card = not (data_begun || begins_data card || ends_source card || is_skipped card)

-- the sheet that a card is on
abbrev pub sheet_of : Bool → List ℕ → Option FormType
sheet_of data_begun card = if is_sheet data_begun card then form_type card else None

-- the order of the sheets
abbrev pub sheet_place : FormType → ℕ
sheet_place form.Header = 0
sheet_place form.File = 1
sheet_place form.Extension = 2
sheet_place form.Form = 3
sheet_place form.Input = 4
sheet_place form.Calculation = 5
sheet_place form.Output = 6
