-- The tables of the code hold the page.
use Rattle.std.proofs.Common.{◌≡◌, ℕ, ◌-◌, ◌<◌, Bool, true, false, not, ◌||◌, ◌==◌, nat_le, get_or, refl, arith}
use Rattle.std.proofs.lemmas.Bool.{agree_below_at, and_parts, eqb-true}
use Rattle.std.proofs.lemmas.Bool.Decides.{nat_tests}
use Rattle.rpg_decimal_words.specs.Order.{collating_sequence}
use Rattle.rpg_text.specs.Texts.{is_character}
use Rattle.rpg_records.specs.CodePage.{page, character_of, byte_of, IsOneToOne, KeepsOrder}
use Rattle.rpg_records.specs.declared.page.TheConstants.{PAGE, BYTES}

pub page_is : PAGE ≡ page
unfolding page
page_is = refl

implied : (a b : Bool) → (not a || b) ≡ true → a ≡ true → b ≡ true
implied true b h t = h
implied false b h t = cc

pub character_low : (c : ℕ) → is_character c ≡ true → c < 127
character_low c h = let p = (and_parts (nat_le 32 c) (nat_le c 126) h).1 in grind (arith, nat_tests)

bytes_at_table : (c : ℕ) → c < 127 → (not (is_character c) || get_or BYTES (c - 32) 0 == byte_of c) ≡ true
unfolding page
bytes_at_table c h = agree_below_at (λ c. not (is_character c) || get_or BYTES (c - 32) 0 == byte_of c) (λ _. true) 127 c refl h

pub bytes_at : (c : ℕ) → is_character c ≡ true → get_or BYTES (c - 32) 0 ≡ byte_of c
bytes_at c h = eqb-true _ _ (implied (is_character c) (get_or BYTES (c - 32) 0 == byte_of c) (bytes_at_table c (character_low c h)) h)

there_table : (c : ℕ) → c < 127 → (not (is_character c) || character_of (byte_of c) == c) ≡ true
unfolding page
there_table c h = agree_below_at (λ c. not (is_character c) || character_of (byte_of c) == c) (λ _. true) 127 c refl h

back_table : (b : ℕ) → b < 256 → (not (is_character (character_of b)) || byte_of (character_of b) == b) ≡ true
unfolding page
back_table b h = agree_below_at (λ b. not (is_character (character_of b)) || byte_of (character_of b) == b) (λ _. true) 256 b refl h

known_table : (b : ℕ) → b < 256 → is_character (character_of b) ≡ not (character_of b == 0)
unfolding page
known_table b h = agree_below_at (λ b. is_character (character_of b)) (λ b. not (character_of b == 0)) 256 b refl h

pub one_to_one : IsOneToOne
one_to_one = record {
  there = λ c h. eqb-true _ _ (implied (is_character c) (character_of (byte_of c) == c) (there_table c (character_low c h)) h);
  back = λ b l h. eqb-true _ _ (implied (is_character (character_of b)) (byte_of (character_of b) == b) (back_table b l) h);
  known = known_table;
}

pub keeps_order : KeepsOrder
unfolding page collating_sequence
keeps_order = refl
