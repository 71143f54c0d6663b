-- The law of output lines, and what they keep in plain words, and back.
use Rattle.std.proofs.Common.{◌≡◌, ℕ, ◌<◌, ◌≤◌, ◌^◌, [], ◌∷◌, length, Ok, Err, refl, ap, ◌∙◌, arith, inl, inr, ltb}
use Rattle.std.proofs.lemmas.Bool.{lt-ltb, ltb-true}
use Rattle.rpg_edit_marks.specs.declared.code.Fill.{Fill}
use Rattle.rpg_edit_marks.specs.declared.code.Fill.TheVariants as fills
use Rattle.rpg_program.specs.declared.line.Editing.{Editing}
use Rattle.rpg_program.specs.declared.line.Editing.TheVariants as editings
use Rattle.rpg_program.specs.declared.line.File.{File}
use Rattle.rpg_program.specs.declared.line.File.TheVariants.{Printer, Disk}
use Rattle.rpg_program.specs.declared.line.LineField.{LineField}
use Rattle.rpg_program.specs.declared.line.Source.{Source}
use Rattle.rpg_program.specs.declared.line.Source.TheVariants as sources
use Rattle.rpg_program.specs.declared.line.Spacing.{Spacing}
use Rattle.rpg_program.specs.declared.line.Time.{Time}
use Rattle.rpg_program.specs.declared.line.Time.TheVariants as times
use Rattle.rpg_object_format.specs.declared.fault.Code.TheVariants.{NotAllowed}
use Rattle.rpg_object_format.specs.Format.{byte, pair, row, times_with, two_bytes}
use Rattle.rpg_object_format.specs.Numbers.{up_to}
use Rattle.rpg_object_format.proofs.Laws.{IsFormat, IsRule, byte_law, pair_law, row_law, table_law, two_law}
use Rattle.rpg_object_format.proofs.Rules.{any_number_law, choice_rule, chosen, count_law, number_law, stands_for, up_to_rule, yes_or_no_law}
use Rattle.rpg_program.specs.Kept.{IsAlternativeRow, IsEditingRow, IsLineFieldRow, IsLineRow, IsSpacingRow}
use Rattle.rpg_program.specs.Object.{LineRow}
use Rattle.rpg_object_rows.specs.declared.letter.Letter.{Letter}
use Rattle.rpg_object_format.specs.Indicators.{alternative}
use Rattle.rpg_object_rows.specs.Lines.{LineFieldParts, LineParts, allowed_alternatives, editing_by_letter, file_by_number, file_number, fill_by_number, fill_number, is_word_field, letter_in, line, line_field, line_field_parts, line_parts, source_by_number, source_number, spacing, time_by_number, time_number, word_in}
use Rattle.rpg_object_format.proofs.Choices.{all_from_table, counted, few, flag_from, passed, table_from_all, taken}
use Rattle.rpg_object_format.proofs.IndicatorLaws.{alternative_law, conditions_law}
use Rattle.rpg_object_format.proofs.IndicatorsKept.{alternative_from, alternative_kept, conditions_from, conditions_kept}
use Rattle.rpg_object_rows.proofs.LetterLaws.{editing_back, letter_read, letter_rule, letter_there, word_allowed, word_there}
use Rattle.rpg_object_format.proofs.OperandLaws.{operand_from, operand_kept, operand_law}
use Rattle.rpg_object_format.proofs.ShapeLaws.{any_byte_law, unused_number_law}

-- ---- fields of lines

line_field_parts_law : IsFormat line_field_parts
unfolding line_field_parts
line_field_parts_law =
    pair_law _ _ (byte_law _ _ (choice_rule (sources.Value ∷ sources.Page ∷ []) source_number)) (λ source. pair_law _ _ (byte_law _ _ letter_rule) (λ letter.
    pair_law _ _ (byte_law _ _ (choice_rule (fills.Blank ∷ fills.Star ∷ fills.Dollar ∷ []) fill_number)) (λ fill. pair_law _ _ yes_or_no_law (λ is_blanked.
    pair_law _ _ operand_law (λ o. pair_law _ _ (number_law (is_word_field letter)) (λ word. pair_law _ _ any_number_law (λ end. conditions_law)))))))

abbrev edited_by : LineFieldParts → Letter → ℕ → LineFieldParts
edited_by a letter word = (a.0, (letter, (a.1.1.0, (a.1.1.1.0, (a.1.1.1.1.0, (word, a.1.1.1.1.1.1))))))

field_there : (a : LineFieldParts) → line_field_parts.Holds a → edited_by a (letter_in (editing_by_letter a.1.0 a.1.1.1.1.1.0)) (word_in (editing_by_letter a.1.0 a.1.1.1.1.1.0)) ≡ a
unfolding line_field_parts pair two_bytes
field_there a h =
    ap (λ l. edited_by a l (word_in (editing_by_letter a.1.0 a.1.1.1.1.1.0))) (letter_there a.1.0 a.1.1.1.1.1.0)
    ∙ ap (λ n. edited_by a a.1.0 n) (word_there a.1.0 a.1.1.1.1.1.0 (passed (is_word_field a.1.0) a.1.1.1.1.1.0 h.1.1.1.1.1.0.0))

abbrev with_editing : LineField ℕ → Editing ℕ → LineField ℕ
with_editing f e = record { source = f.source; operand = f.operand; editing = e; fill = f.fill; is_blanked = f.is_blanked; end = f.end; conditions = f.conditions }

line_field_law : IsFormat line_field
unfolding line_field
line_field_law = row_law _ _ _ field_there (λ f. ap (with_editing f) (editing_back f.editing)) line_field_parts_law

-- ---- lines

spacing_law : IsFormat spacing
unfolding spacing
spacing_law = row_law _ _ _ (λ a h. refl) (λ x. refl) (pair_law _ _ any_byte_law (λ a. pair_law _ _ any_byte_law (λ b. pair_law _ _ any_byte_law (λ c. any_byte_law))))

alternative_rule : IsRule allowed_alternatives (λ n. n)
alternative_rule n x e =
    elim (chosen (ltb 0 n) (up_to 50 n) (Err NotAllowed) (stands_for x) e) [
      | inl w ↦ up_to_rule 50 n x w.1
      | inr w ↦ absurd (let m = w.1 in cc)
    ]

line_parts_law : IsFormat line_parts
unfolding line_parts
line_parts_law =
    pair_law _ _ (byte_law _ _ (choice_rule (Printer ∷ Disk ∷ []) file_number)) (λ f.
    pair_law _ _ (byte_law _ _ (choice_rule (times.Heading ∷ times.Detail ∷ times.Total ∷ times.Exception ∷ []) time_number)) (λ t. pair_law _ _ spacing_law (λ s.
    pair_law _ _ (two_law _ _ alternative_rule) (λ alternatives. pair_law _ _ (count_law 200) (λ fields. pair_law _ _ unused_number_law (λ nothing.
    pair_law _ _ (table_law alternatives alternative alternative_law) (λ as_. table_law fields line_field line_field_law)))))))

abbrev with_counts : LineParts → ℕ → ℕ → LineParts
with_counts a alternatives fields = (a.0, (a.1.0, (a.1.1.0, (alternatives, (fields, (tt, a.1.1.1.1.1.1))))))

line_there : (a : LineParts) → line_parts.Holds a → with_counts a (length a.1.1.1.1.1.1.0) (length a.1.1.1.1.1.1.1) ≡ a
unfolding line_parts pair times_with
line_there a h =
    ap (λ (k : ℕ). with_counts a k (length a.1.1.1.1.1.1.1)) h.1.1.1.1.1.1.0.0
    ∙ ap (λ (k : ℕ). with_counts a a.1.1.1.0 k) h.1.1.1.1.1.1.1.0

pub line_law : IsFormat line
unfolding line
line_law = row_law _ _ _ line_there (λ x. refl) line_parts_law

-- ---- what lines keep

word_kept : (e : Editing ℕ) → word_in e < 65536 → IsEditingRow e
word_kept editings.Plain h = tt
word_kept (editings.Code code) h = tt
word_kept (editings.Word field) h = h

word_small : (e : Editing ℕ) → IsEditingRow e → word_in e < 65536
word_small editings.Plain h = omega arith
word_small (editings.Code code) h = omega arith
word_small (editings.Word field) h = h

line_field_kept : (f : LineField ℕ) → line_field.Holds f → IsLineFieldRow f
unfolding line_field line_field_parts pair row two_bytes
line_field_kept f h = record {
  operand = operand_kept f.operand h.1.1.1.1.0;
  editing = word_kept f.editing h.1.1.1.1.1.0.1;
  end = h.1.1.1.1.1.1.0.1;
  conditions = conditions_kept f.conditions h.1.1.1.1.1.1.1;
}

source_from : (s : Source) → (source_by_number (source_number s) ≡ Ok s) × (source_number s < 2 ^ 8)
source_from sources.Value = (refl, omega arith)
source_from sources.Page = (refl, omega arith)

fill_from : (f : Fill) → (fill_by_number (fill_number f) ≡ Ok f) × (fill_number f < 2 ^ 8)
fill_from fills.Blank = (refl, omega arith)
fill_from fills.Star = (refl, omega arith)
fill_from fills.Dollar = (refl, omega arith)

line_field_from : (f : LineField ℕ) → IsLineFieldRow f → line_field.Holds f
unfolding line_field line_field_parts pair row byte two_bytes
line_field_from f h =
    let letter = letter_read (letter_in f.editing) in
    let word = taken (is_word_field (letter_in f.editing)) (word_in f.editing) (word_allowed f.editing) in (
      source_from f.source,
      (
        (letter.as_it_is, letter.small),
        (
          fill_from f.fill,
          (
            flag_from f.is_blanked,
            (operand_from f.operand h.operand, ((word, word_small f.editing h.editing), ((refl, h.end), conditions_from f.conditions h.conditions))),
          ),
        ),
      ),
    )

spacing_kept : (s : Spacing) → spacing.Holds s → IsSpacingRow s
unfolding spacing pair row byte
spacing_kept s h = record { space_before = h.0.1; space_after = h.1.0.1; skip_before = h.1.1.0.1; skip_after = h.1.1.1.1 }

spacing_from : (s : Spacing) → IsSpacingRow s → spacing.Holds s
unfolding spacing pair row byte
spacing_from s h = ((refl, h.space_before), ((refl, h.space_after), ((refl, h.skip_before), (refl, h.skip_after))))

some_and_few : (n : ℕ) → allowed_alternatives n ≡ Ok n → (1 ≤ n) × (n ≤ 50)
some_and_few n e =
    elim (chosen (ltb 0 n) (up_to 50 n) (Err NotAllowed) (stands_for n) e) [
      | inl w ↦ (ltb-true 0 n w.0, counted 50 n w.1)
      | inr w ↦ absurd (let k = w.1 in cc)
    ]

count_from : (n : ℕ) → 1 ≤ n → n ≤ 50 → allowed_alternatives n ≡ Ok n
count_from n some h = rw (lt-ltb 0 n some) (few 50 n h)

pub line_kept : (l : LineRow) → line.Holds l → IsLineRow l
unfolding line line_parts pair row two_bytes
line_kept l h =
    let alternatives = some_and_few (length l.alternatives) h.1.1.1.0.0 in
    record {
      spacing = spacing_kept l.spacing h.1.1.0;
      some_alternatives = alternatives.0;
      few_alternatives = alternatives.1;
      alternatives = all_from_table alternative IsAlternativeRow alternative_kept (length l.alternatives) l.alternatives h.1.1.1.1.1.1.0;
      few_fields = counted 200 (length l.fields) h.1.1.1.1.0.0;
      fields = all_from_table line_field IsLineFieldRow line_field_kept (length l.fields) l.fields h.1.1.1.1.1.1.1;
    }

file_from : (f : File) → (file_by_number (file_number f) ≡ Ok f) × (file_number f < 2 ^ 8)
file_from Printer = (refl, omega arith)
file_from Disk = (refl, omega arith)

time_from : (t : Time) → (time_by_number (time_number t) ≡ Ok t) × (time_number t < 2 ^ 8)
time_from times.Heading = (refl, omega arith)
time_from times.Detail = (refl, omega arith)
time_from times.Total = (refl, omega arith)
time_from times.Exception = (refl, omega arith)

pub line_from : (l : LineRow) → IsLineRow l → line.Holds l
unfolding line line_parts pair row byte two_bytes
line_from l h =
    let alternatives = h.few_alternatives in
    let fields = h.few_fields in (
      file_from l.file,
      (
        time_from l.time,
        (
          spacing_from l.spacing h.spacing,
          (
            (count_from (length l.alternatives) h.some_alternatives alternatives, omega arith),
            ((few 200 (length l.fields) fields, omega arith), ((refl, omega arith), (table_from_all alternative IsAlternativeRow alternative_from l.alternatives h.alternatives, table_from_all line_field IsLineFieldRow line_field_from l.fields h.fields))),
          ),
        ),
      ),
    )
