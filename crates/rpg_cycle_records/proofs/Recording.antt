-- A valid record is characters, and so is what it is filled with.
use Rattle.std.proofs.Common.{◌≡◌, ℕ, ◌-◌, Bool, true, false, ◌&&◌, leb, List, [], ◌∷◌, length, replicate, All, refl, arith}
use Rattle.std.proofs.lemmas.Bool.Decides.{nat_tests}
use Rattle.std.proofs.lemmas.List.Elements.{All-append, All-replicate}
use Rattle.std.specs.List.{list_all}
use Rattle.rpg_text.specs.Texts.{is_character}
use Rattle.rpg_cycle_records.specs.Identifying.{is_valid_record, padded}
use Rattle.rpg_program.specs.declared.input.InputFile.{InputFile}
use Rattle.rpg_program.specs.Kept.{IsCharacter}
use Rattle.rpg_program.specs.Object.{Object, input_length}

character : (c : ℕ) → is_character c ≡ true → IsCharacter c
character c h = record { lowest = grind (arith, nat_tests, h); highest = grind (arith, nat_tests, h) }

first : (b c : Bool) → (b && c) ≡ true → b ≡ true
first true c h = refl
first false c h = cc

second : (b c : Bool) → (b && c) ≡ true → c ≡ true
second true c h = h
second false c h = cc

characters : (xs : List ℕ) → list_all is_character xs ≡ true → All IsCharacter xs
characters [] h = λ k d l. absurd (omega (arith, l))
characters (x ∷ xs) h =
    All-append IsCharacter (x ∷ []) xs (only (character x (first (is_character x) (list_all is_character xs) h))) (characters xs (second (is_character x) (list_all is_character xs) h))
  where
    only : IsCharacter x → All IsCharacter (x ∷ [])
    only c = All-replicate IsCharacter 1 x c

pub filled_characters : (p : Object) (f : InputFile) (text : List ℕ) → is_valid_record p f text ≡ true → All IsCharacter (padded p f text)
filled_characters p f text valid =
    All-append IsCharacter text (replicate (input_length p f - length text) 32)
    (characters text (second (leb (length text) (input_length p f)) (list_all is_character text) valid))
    (All-replicate IsCharacter (input_length p f - length text) 32 (record { lowest = omega arith; highest = omega arith }))
