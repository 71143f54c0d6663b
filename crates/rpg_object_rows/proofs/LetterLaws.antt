-- The letters of edited fields.
use Rattle.std.proofs.Common.{◌≡◌, ℕ, ◌<◌, ◌^◌, true, false, cond, List, [], ◌∷◌, Option, Some, None, Ok, refl, sym, ap, ◌∙◌, arith, inl, inr, eqb, eqb-true}
use Rattle.std.specs.Prelude.{find, option_map}
use Rattle.rpg_edit_marks.specs.Code.{code_character, code_of, table_of_codes}
use Rattle.rpg_edit_marks.specs.declared.code.EditCode.{EditCode}
use Rattle.rpg_edit_marks.specs.declared.code.EditCode.TheVariants.{Combination, X, Y, Z}
use Rattle.rpg_edit_marks.specs.declared.code.Ending.TheVariants.{Unsigned, Credit, Minus}
use Rattle.rpg_program.specs.declared.line.Editing.{Editing}
use Rattle.rpg_program.specs.declared.line.Editing.TheVariants as editings
use Rattle.rpg_object_format.proofs.Laws.{IsRule}
use Rattle.rpg_object_format.proofs.Rules.{chosen, stands_for, value_is}
use Rattle.rpg_object_rows.specs.declared.letter.Letter.{Letter}
use Rattle.rpg_object_rows.specs.declared.letter.Letter.TheVariants.{Plain, Code, Word}
use Rattle.rpg_object_rows.specs.Lines.{editing_by_letter, is_word_field, known_edit_code, letter_in, letter_number, letter_of, word_in}
use Rattle.rpg_object_format.proofs.Choices.{decided, some_is}

-- each code with its character
abbrev AreNumbered : List (ℕ × EditCode) → Type 0
AreNumbered [] = Unit {0}
AreNumbered (r ∷ rows) = (code_character r.1 ≡ r.0) × AreNumbered rows

codes_numbered : AreNumbered table_of_codes
codes_numbered = (refl, (refl, (refl, (refl, (refl, (refl, (refl, (refl, (refl, (refl, (refl, (refl, (refl, (refl, (refl, tt)))))))))))))))

abbrev code_in : List (ℕ × EditCode) → ℕ → Option EditCode
code_in rows n = option_map (λ row. row.1) (find (λ row. eqb row.0 n) rows)

code_is : (rows : List (ℕ × EditCode)) → AreNumbered rows → (n : ℕ) (c : EditCode) → code_in rows n ≡ Some c → code_character c ≡ n
code_is [] h n c e = absurd (let k = e in cc)
code_is (r ∷ rows) h n c e =
    elim (decided (eqb r.0 n) (Some r) (find (λ row. eqb row.0 n) rows)) [
      | inl w ↦ ap code_character (sym (some_is r.1 c (sym (ap (λ (o : Option (ℕ × EditCode)). option_map (λ row. row.1) o) w.1) ∙ e))) ∙ h.0 ∙ eqb-true _ _ w.0
      | inr w ↦ code_is rows h.1 n c (sym (ap (λ (o : Option (ℕ × EditCode)). option_map (λ row. row.1) o) w.1) ∙ e)
    ]

known_is : (n : ℕ) (o : Option EditCode) (x : Letter) → code_of n ≡ o → known_edit_code o ≡ stands_for x → letter_number x ≡ n
known_is n None x e h = absurd (let k = h in cc)
known_is n (Some c) x e h = ap letter_number (sym (value_is (Code c) x h)) ∙ code_is table_of_codes codes_numbered n c e

pub letter_rule : IsRule letter_of letter_number
letter_rule n x e =
    elim (chosen (eqb n 0) (stands_for Plain) (cond (eqb n 87) (stands_for Word) (known_edit_code (code_of n))) (stands_for x) e) [
      | inl w ↦ ap letter_number (sym (value_is Plain x w.1)) ∙ sym (eqb-true _ _ w.0)
      | inr w ↦ elim (chosen (eqb n 87) (stands_for Word) (known_edit_code (code_of n)) (stands_for x) w.1) [
        | inl u ↦ ap letter_number (sym (value_is Word x u.1)) ∙ sym (eqb-true _ _ u.0)
        | inr u ↦ known_is n (code_of n) x refl u.1
      ]
    ]

-- each letter is read from its number
pub record IsRead (l : Letter) : Type 0 where
  pub as_it_is : letter_of (letter_number l) ≡ Ok l
  pub small : letter_number l < 2 ^ 8

pub letter_read : (l : Letter) → IsRead l
letter_read Plain = record { as_it_is = refl; small = omega arith }
letter_read Word = record { as_it_is = refl; small = omega arith }
letter_read (Code X) = record { as_it_is = refl; small = omega arith }
letter_read (Code Y) = record { as_it_is = refl; small = omega arith }
letter_read (Code Z) = record { as_it_is = refl; small = omega arith }
letter_read (Code (Combination true true Unsigned)) = record { as_it_is = refl; small = omega arith }
letter_read (Code (Combination true false Unsigned)) = record { as_it_is = refl; small = omega arith }
letter_read (Code (Combination false true Unsigned)) = record { as_it_is = refl; small = omega arith }
letter_read (Code (Combination false false Unsigned)) = record { as_it_is = refl; small = omega arith }
letter_read (Code (Combination true true Credit)) = record { as_it_is = refl; small = omega arith }
letter_read (Code (Combination true false Credit)) = record { as_it_is = refl; small = omega arith }
letter_read (Code (Combination false true Credit)) = record { as_it_is = refl; small = omega arith }
letter_read (Code (Combination false false Credit)) = record { as_it_is = refl; small = omega arith }
letter_read (Code (Combination true true Minus)) = record { as_it_is = refl; small = omega arith }
letter_read (Code (Combination true false Minus)) = record { as_it_is = refl; small = omega arith }
letter_read (Code (Combination false true Minus)) = record { as_it_is = refl; small = omega arith }
letter_read (Code (Combination false false Minus)) = record { as_it_is = refl; small = omega arith }

-- ---- letter and word of an editing

pub letter_there : (l : Letter) (word : ℕ) → letter_in (editing_by_letter l word) ≡ l
letter_there Plain word = refl
letter_there (Code code) word = refl
letter_there Word word = refl

pub word_there : (l : Letter) (word : ℕ) → is_word_field l word ≡ true → word_in (editing_by_letter l word) ≡ word
word_there Plain word h = sym (eqb-true word 0 h)
word_there (Code code) word h = sym (eqb-true word 0 h)
word_there Word word h = refl

pub editing_back : (e : Editing ℕ) → editing_by_letter (letter_in e) (word_in e) ≡ e
editing_back editings.Plain = refl
editing_back (editings.Code code) = refl
editing_back (editings.Word field) = refl

pub word_allowed : (e : Editing ℕ) → is_word_field (letter_in e) (word_in e) ≡ true
word_allowed editings.Plain = refl
word_allowed (editings.Code code) = refl
word_allowed (editings.Word field) = refl
