-- Moves leave characters.
use Rattle.std.proofs.Common.{◌≡◌, ℕ, zero, suc, ℤ, ◌+◌, ◌-◌, ◌/◌, ◌%◌, ◌^◌, ◌<◌, Bool, true, false, cond, eqb, List, [], ◌∷◌, map, length, take, drop, arith, refl, unsigned_abs}
use Rattle.std.specs.Prelude.{All}
use Rattle.std.proofs.lemmas.List.Elements.{All-append, All-cons, All-drop, All-map, All-nil, All-take}
use Rattle.rpg_decimal_words.specs.Place.{lowest_digits}
use Rattle.rpg_decimal_words.specs.Zoned.{last_character, minus_letter, zoned_text}
use Rattle.rpg_program.specs.Act.{text_over}
use Rattle.rpg_program.specs.declared.operation.Side.{Side}
use Rattle.rpg_program.specs.declared.operation.Side.TheVariants.{Right, Left}
use Rattle.rpg_program.specs.Kept.{IsCharacter}

-- places of characters over characters
pub over_characters : (side : Side) (source old : List ℕ) → All IsCharacter source → All IsCharacter old → All IsCharacter (text_over side source old)
over_characters Right source old s o =
    All-append IsCharacter (take (length old - length source) old) (drop (length source - length old) source)
    (All-take IsCharacter (length old - length source) old o) (All-drop IsCharacter (length source - length old) source s)
over_characters Left source old s o =
    All-append IsCharacter (take (length old) source) (drop (length source) old)
    (All-take IsCharacter (length old) source s) (All-drop IsCharacter (length source) old o)

-- ---- what is written for a number

abbrev IsPlainDigit : ℕ → Type 0
IsPlainDigit d = IsCharacter (48 + d)

plain_digit : (d : ℕ) → d < 10 → IsPlainDigit d
plain_digit d h = record { lowest = omega arith; highest = omega arith }

plain_digits : (k n : ℕ) → All IsPlainDigit (lowest_digits k n)
plain_digits zero n = All-nil IsPlainDigit
plain_digits (suc k) n = All-cons IsPlainDigit (n / 10 ^ k % 10) (lowest_digits k n) (plain_digit (n / 10 ^ k % 10) (omega arith)) (plain_digits k n)

letter_at : (d : ℕ) (b : Bool) → d < 10 → eqb d 0 ≡ b → IsCharacter (cond b 125 (73 + d))
letter_at d true h e = record { lowest = omega arith; highest = omega arith }
letter_at d false h e = record { lowest = omega arith; highest = omega arith }

last_at : (d : ℕ) (b : Bool) → d < 10 → IsCharacter (cond b (minus_letter d) (48 + d))
last_at d true h = letter_at d (eqb d 0) h refl
last_at d false h = plain_digit d h

-- the text that is written for a number is characters
pub zoned_characters : (k : ℕ) (n : ℤ) → All IsCharacter (zoned_text k n)
zoned_characters k n =
    All-append IsCharacter (map (λ d. 48 + d) (lowest_digits (k - 1) (unsigned_abs n / 10))) (last_character n ∷ [])
    (All-map IsCharacter (λ d. 48 + d) (lowest_digits (k - 1) (unsigned_abs n / 10)) (plain_digits (k - 1) (unsigned_abs n / 10)))
    (All-cons IsCharacter (last_character n) [] (last_at (unsigned_abs n % 10) _ (omega arith)) (All-nil IsCharacter))

pub ruleset written = (zoned_characters)
