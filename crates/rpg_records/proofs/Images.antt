-- Images of records, place by place.
use Rattle.std.proofs.Common.{◌≡◌, ℕ, zero, suc, ◌<◌, ◌==◌, not, Bool, true, false, cond, List, [], ◌∷◌, length, get_or, refl, sym, ap, ◌∙◌, arith}
use Rattle.std.proofs.lemmas.Bool.{eqb-true, not-true}
use Rattle.rpg_text.specs.Texts.{is_character}
use Rattle.rpg_records.proofs.CodePages.{one_to_one}
use Rattle.rpg_records.specs.CodePage.{character_of}
use Rattle.rpg_records.specs.Columns.{blank_for_none, column_character, image, is_number_column, is_written_again, last_place_character, page_byte, page_character}
use Rattle.rpg_records.specs.declared.column.Column.{Column}
use Rattle.rpg_records.specs.declared.column.Column.TheVariants as columns
use Rattle.rpg_records.specs.declared.translation.Page.{Page}
use Rattle.rpg_records.specs.declared.translation.Page.TheVariants as pages

pub length-image : (page : Page) (low : Bool) (kinds : List Column) (bytes : List ℕ) → length kinds ≡ length bytes → length (image page low kinds bytes) ≡ length bytes
length-image page low [] [] h = refl
length-image page low [] (b ∷ bs) h = absurd (omega arith)
length-image page low (k ∷ ks) [] h = refl
length-image page low (k ∷ ks) (b ∷ bs) h = ap suc (length-image page low ks bs (omega arith))

pub get_or-image : (page : Page) (low : Bool) (kinds : List Column) (bytes : List ℕ) (i : ℕ) → i < length kinds → i < length bytes
    → get_or (image page low kinds bytes) i 0 ≡ column_character page low (get_or kinds i columns.Text) (get_or bytes i 0)
get_or-image page low [] bytes i h g = absurd (omega arith)
get_or-image page low (k ∷ ks) [] i h g = absurd (omega arith)
get_or-image page low (k ∷ ks) (b ∷ bs) zero h g = refl
get_or-image page low (k ∷ ks) (b ∷ bs) (suc i) h g = get_or-image page low ks bs i (omega arith) (omega arith)

-- ---- characters that are written as their bytes again

-- a character, and the byte that is written for it
pub record IsCharacterOf (page : Page) (b c : ℕ) : Type 0 where
  pub known : is_character c ≡ true
  pub back : page_byte page c ≡ b

page_back : (page : Page) (b : ℕ) → b < 256 → (page_character page b == 0) ≡ false → IsCharacterOf page b (page_character page b)
page_back pages.Ebcdic b low some =
    let known : is_character (character_of b) ≡ true = one_to_one.known b low ∙ ap not some in
    record { known = known; back = one_to_one.back b low known }
page_back pages.Ascii b low some = at (is_character b) refl some
  where
    at : (t : Bool) → is_character b ≡ t → (cond t b 0 == 0) ≡ false → IsCharacterOf pages.Ascii b (cond t b 0)
    at true e some = record { known = e; back = refl }
    at false e some = cc

-- the character of a column: a blank for a number's byte, and else the byte's own
pub column_back : (page : Page) (kind : Column) (b : ℕ) → b < 256 → is_written_again page kind b ≡ true → is_number_column kind ≡ false → (column_character page false kind b == 0) ≡ false
    → IsCharacterOf page b (column_character page false kind b)
column_back page columns.Text b low again hides some = page_back page b low some
column_back page columns.LastPlace b low again hides some =
    let same : last_place_character page b ≡ page_character page b = eqb-true (last_place_character page b) (page_character page b) again in
    rw same (page_back page b low (ap (λ (c : ℕ). c == 0) (sym same) ∙ some))
column_back page columns.Number b low again hides some = cc
column_back page columns.Unnamed b low again hides some =
    let there : (page_character page b == 0) ≡ false = not-true (page_character page b == 0) again in
    let same : page_character page b ≡ blank_for_none (page_character page b) = ap (λ (t : Bool). cond t 32 (page_character page b)) (sym there) in
    rw (sym same) (page_back page b low there)

pub number_column : (page : Page) (kind : Column) (b : ℕ) → is_number_column kind ≡ true → column_character page false kind b ≡ 32
number_column page columns.Text b e = cc
number_column page columns.LastPlace b e = cc
number_column page columns.Number b e = refl
number_column page columns.Unnamed b e = cc

-- the byte of a character is read as that character
pub page_forth : (page : Page) (c : ℕ) → is_character c ≡ true → page_character page (page_byte page c) ≡ c
page_forth pages.Ebcdic c h = one_to_one.there c h
page_forth pages.Ascii c h = ap (λ (t : Bool). cond t c 0) h
