-- Code page 037, as far as it has characters.
use Rattle.std.specs.Prelude.{◌≡◌, ℕ, ◌+◌, ◌/◌, ◌%◌, ◌<◌, nat_lt, List, ◌++◌, replicate, position, slice_index, unwrap_or, ◌==◌, ◌||◌, not, if◌then◌else◌, IsTrue, codes}
use Rattle.std.specs.List.{filter}
use Rattle.rpg_text.specs.Texts.{is_character}
use Rattle.rpg_decimal_words.specs.Order.{collating_sequence}
use Rattle.rpg_decimal_words.specs.Zoned.{minus_letter}

-- this many bytes without a character
abbrev pub gap : ℕ → List ℕ
gap n = replicate n 0

-- the characters of the bytes 0 to 255, 0 for none
unfoldable pub page : List ℕ
page = gap 64 ++ codes " " ++ gap 10 ++ codes ".<(+|&" ++ gap 9 ++ codes "!$*);" ++ gap 1 ++ codes "-/" ++ gap 9 ++ codes ",%_>?" ++ gap 9 ++ codes "`:#@'=\"" ++ gap 1 ++ codes "abcdefghi"
    ++ gap 7 ++ codes "jklmnopqr" ++ gap 7 ++ codes "~stuvwxyz" ++ gap 6 ++ codes "^" ++ gap 9 ++ codes "[]" ++ gap 4 ++ codes "{ABCDEFGHI" ++ gap 6 ++ codes "}JKLMNOPQR" ++ gap 6 ++ codes "\\"
    ++ gap 1 ++ codes "STUVWXYZ" ++ gap 6 ++ codes "0123456789" ++ gap 6

-- the character of a byte, 0 for none
abbrev pub character_of : ℕ → ℕ
character_of b = slice_index page b

-- the byte of a character
abbrev pub byte_of : ℕ → ℕ
byte_of c = unwrap_or (position (λ x. x == c) page) 0

-- the last place of a number: zones A, C, E and F are plus, B and D minus. C and D are letters of the page already, and so is F a digit
abbrev pub last_place_of : ℕ → ℕ
last_place_of b =
    if nat_lt (b % 16) 10 then (if b / 16 == 10 || b / 16 == 14 then 48 + b % 16 else (if b / 16 == 11 then minus_letter (b % 16) else character_of b)) else character_of b

-- each character has one byte, and no two bytes have one character
pub record IsOneToOne : Type 0 where
  pub there : (c : ℕ) → IsTrue (is_character c) → character_of (byte_of c) ≡ c
  pub back : (b : ℕ) → b < 256 → IsTrue (is_character (character_of b)) → byte_of (character_of b) ≡ b
  pub known : (b : ℕ) → b < 256 → is_character (character_of b) ≡ not (character_of b == 0)

-- the bytes of the page order the characters by the collating sequence
abbrev pub KeepsOrder : Type 0
KeepsOrder = filter (λ c. not (c == 0)) page ≡ collating_sequence
