-- The law of record types, and what they keep in plain words, and back.
use Rattle.std.proofs.Common.{◌≡◌, ℕ, ◌<◌, ◌≤◌, ◌^◌, false, List, [], ◌∷◌, length, Ok, refl, ap, ◌∙◌, arith}
use Rattle.rpg_program.specs.Input.{TypeRow}
use Rattle.rpg_program.specs.declared.input.ControlField.{ControlField}
use Rattle.rpg_program.specs.declared.input.InputField.{InputField}
use Rattle.rpg_program.specs.declared.input.InputFile.{InputFile}
use Rattle.rpg_program.specs.declared.input.InputFile.TheVariants.{Primary, Secondary}
use Rattle.rpg_program.specs.declared.input.RecordCode.{RecordCode}
use Rattle.rpg_object_format.specs.Format.{byte, pair, row, times_with, two_bytes}
use Rattle.rpg_object_format.specs.Numbers.{count}
use Rattle.rpg_object_format.proofs.Laws.{IsFormat, pair_law, row_law, table_law}
use Rattle.rpg_object_format.proofs.Rules.{any_number_law, byte_where_law, count_law, one_of_law, yes_or_no_law}
use Rattle.rpg_program.specs.Kept.{IsCodeRow, IsControlRow, IsInputRow, IsPlainType, IsTypeRow}
use Rattle.rpg_program.specs.Object.{has_secondary}
use Rattle.rpg_program.specs.declared.rows.Version.{Version}
use Rattle.rpg_text.specs.Texts.{is_between}
use Rattle.rpg_object_rows.specs.Types.{TypeParts, control_field_format, input_field_format, input_file_format, input_file_by_number, input_file_number, match_count, record_code_format, record_type_format, type_parts}
use Rattle.rpg_object_format.proofs.Choices.{all_from_table, between, counted, few, flag_from, table_from_all, within}
use Rattle.rpg_object_format.proofs.IndicatorLaws.{indicator_law, shows_law}
use Rattle.rpg_object_format.proofs.IndicatorsKept.{indicator_from, indicator_kept, shows_from, shows_kept}
use Rattle.rpg_object_format.specs.Shapes.{no_number, unused_byte}
use Rattle.rpg_object_format.proofs.ShapeLaws.{either_holds, either_keeps, no_number_law, unused_byte_law, unused_is, where_used_law}

record_code_law : IsFormat record_code_format
unfolding record_code_format
record_code_law = row_law _ _ _ (λ a h. refl) (λ x. refl) (pair_law _ _ any_number_law (λ position. pair_law _ _ yes_or_no_law (λ is_negated. byte_where_law (is_between 32 126))))

control_field_law : IsFormat control_field_format
unfolding control_field_format
control_field_law =
    row_law _ _ _ (λ a h. refl) (λ x. refl)
    (pair_law _ _ (byte_where_law (is_between 1 9)) (λ level. pair_law _ _ yes_or_no_law (λ is_numeric. pair_law _ _ any_number_law (λ from. any_number_law))))

input_field_law : IsFormat input_field_format
unfolding input_field_format
input_field_law =
    row_law _ _ _ (λ a h. refl) (λ x. refl)
    (pair_law _ _ any_number_law (λ from. pair_law _ _ any_number_law (λ to. pair_law _ _ any_number_law (λ field. pair_law _ _ shows_law (λ s. unused_byte_law)))))

input_file_law : (v : Version) → IsFormat (input_file_format v)
input_file_law v = where_used_law (has_secondary v) _ Primary unused_byte (one_of_law (Primary ∷ Secondary ∷ []) input_file_number) unused_byte_law

match_count_law : (v : Version) → IsFormat (match_count v)
match_count_law v = where_used_law (has_secondary v) _ 0 no_number (count_law 9) no_number_law

type_parts_law : (v : Version) → IsFormat (type_parts v)
unfolding type_parts
type_parts_law v =
    pair_law _ _ indicator_law (λ i. pair_law _ _ (input_file_law v) (λ file.
    pair_law _ _ (count_law 100) (λ codes. pair_law _ _ (count_law 100) (λ levels. pair_law _ _ (count_law 500) (λ inputs. pair_law _ _ (match_count_law v) (λ matches.
    pair_law _ _ (table_law codes record_code_format record_code_law) (λ cs. pair_law _ _ (table_law levels control_field_format control_field_law) (λ ls.
    pair_law _ _ (table_law inputs input_field_format input_field_law) (λ is. table_law matches control_field_format control_field_law)))))))))

abbrev with_counts : TypeParts → ℕ → ℕ → ℕ → ℕ → TypeParts
with_counts a codes levels inputs matches = (a.0, (a.1.0, (codes, (levels, (inputs, (matches, a.1.1.1.1.1.1))))))

counts_are : (a : TypeParts) {c c' l l' i i' m m' : ℕ} → c ≡ c' → l ≡ l' → i ≡ i' → m ≡ m' → with_counts a c l i m ≡ with_counts a c' l' i' m'
counts_are a {c} {c'} {l} {l'} {i} {i'} {m} {m'} ec el ei em =
    ap (λ (k : ℕ). with_counts a k l i m) ec ∙ ap (λ (k : ℕ). with_counts a c' k i m) el ∙ ap (λ (k : ℕ). with_counts a c' l' k m) ei ∙ ap (λ (k : ℕ). with_counts a c' l' i' k) em

type_there : (v : Version) (a : TypeParts) → (type_parts v).Holds a → with_counts a (length a.1.1.1.1.1.1.0) (length a.1.1.1.1.1.1.1.0) (length a.1.1.1.1.1.1.1.1.0) (length a.1.1.1.1.1.1.1.1.1) ≡ a
unfolding type_parts pair times_with
type_there v a h =
    let codes : length a.1.1.1.1.1.1.0 ≡ a.1.1.0 = h.1.1.1.1.1.1.0.0 in
    let levels : length a.1.1.1.1.1.1.1.0 ≡ a.1.1.1.0 = h.1.1.1.1.1.1.1.0.0 in
    let inputs : length a.1.1.1.1.1.1.1.1.0 ≡ a.1.1.1.1.0 = h.1.1.1.1.1.1.1.1.0.0 in
    let matches : length a.1.1.1.1.1.1.1.1.1 ≡ a.1.1.1.1.1.0 = h.1.1.1.1.1.1.1.1.1.0 in
    counts_are a codes levels inputs matches

pub record_type_law : (v : Version) → IsFormat (record_type_format v)
unfolding record_type_format
record_type_law v = row_law _ _ _ (type_there v) (λ x. refl) (type_parts_law v)

-- ---- what record types keep

code_kept : (c : RecordCode) → record_code_format.Holds c → IsCodeRow c
unfolding record_code_format pair row byte two_bytes
code_kept c h = let k = within 32 126 c.character h.1.1.0 in record { position = h.0.1; character = record { lowest = k.0; highest = k.1 } }

code_from : (c : RecordCode) → IsCodeRow c → record_code_format.Holds c
unfolding record_code_format pair row byte two_bytes
code_from c h = let small = h.character.highest in ((refl, h.position), (flag_from c.is_negated, (between 32 126 c.character h.character.lowest h.character.highest, omega arith)))

control_kept : (c : ControlField) → control_field_format.Holds c → IsControlRow c
unfolding control_field_format pair row byte two_bytes
control_kept c h = let k = within 1 9 c.level h.0.0 in record { lowest = k.0; highest = k.1; from = h.1.1.0.1; to = h.1.1.1.1 }

control_from : (c : ControlField) → IsControlRow c → control_field_format.Holds c
unfolding control_field_format pair row byte two_bytes
control_from c h = let small = h.highest in ((between 1 9 c.level h.lowest h.highest, omega arith), (flag_from c.is_numeric, ((refl, h.from), (refl, h.to))))

input_kept : (f : InputField ℕ) → input_field_format.Holds f → IsInputRow f
unfolding input_field_format pair row two_bytes
input_kept f h = record { from = h.0.1; to = h.1.0.1; field = h.1.1.0.1; shows = shows_kept f.shows h.1.1.1.0 }

input_from : (f : InputField ℕ) → IsInputRow f → input_field_format.Holds f
unfolding input_field_format pair row byte two_bytes
input_from f h = ((refl, h.from), ((refl, h.to), ((refl, h.field), (shows_from f.shows h.shows, (refl, omega arith)))))

-- ---- what a version without a secondary file doesn't have

file_from : (f : InputFile) → (input_file_by_number (input_file_number f) ≡ Ok f) × (input_file_number f < 2 ^ 8)
file_from Primary = (refl, omega arith)
file_from Secondary = (refl, omega arith)

few_matches : (v : Version) (n : ℕ) → (match_count v).Holds n → n ≤ 9
unfolding two_bytes
few_matches v = either_keeps (λ n. n ≤ 9) (has_secondary v) (count 9) 0 no_number (λ n h. counted 9 n h.0) (omega arith)

match_count_from : (v : Version) (n : ℕ) → n ≤ 9 → (has_secondary v ≡ false → n ≡ 0) → (match_count v).Holds n
unfolding no_number two_bytes
match_count_from v n le plain = either_holds (has_secondary v) (count 9) 0 no_number n (few 9 n le, omega arith) tt plain

none_left : {X : Type 0} (xs : List X) → length xs ≡ 0 → xs ≡ []
none_left [] e = refl
none_left (x ∷ xs) e = absurd (omega arith)

-- ---- what record types keep, whole

pub type_kept : (v : Version) (t : TypeRow ℕ) → (record_type_format v).Holds t → IsTypeRow t
unfolding record_type_format type_parts pair row two_bytes
type_kept v t h = record {
  indicator = indicator_kept t.indicator h.0;
  few_codes = counted 100 (length t.codes) h.1.1.0.0;
  codes = all_from_table record_code_format IsCodeRow code_kept (length t.codes) t.codes h.1.1.1.1.1.1.0;
  few_levels = counted 100 (length t.levels) h.1.1.1.0.0;
  levels = all_from_table control_field_format IsControlRow control_kept (length t.levels) t.levels h.1.1.1.1.1.1.1.0;
  few_inputs = counted 500 (length t.inputs) h.1.1.1.1.0.0;
  inputs = all_from_table input_field_format IsInputRow input_kept (length t.inputs) t.inputs h.1.1.1.1.1.1.1.1.0;
  few_matches = few_matches v (length t.matches) h.1.1.1.1.1.0;
  matches = all_from_table control_field_format IsControlRow control_kept (length t.matches) t.matches h.1.1.1.1.1.1.1.1.1;
}

pub plain_kept : (v : Version) (t : TypeRow ℕ) → (record_type_format v).Holds t → has_secondary v ≡ false → IsPlainType t
unfolding record_type_format type_parts pair row
plain_kept v t h first = record {
  file = unused_is (has_secondary v) (byte input_file_by_number input_file_number) Primary unused_byte t.file h.1.0 first;
  matches = none_left t.matches (unused_is (has_secondary v) (count 9) 0 no_number (length t.matches) h.1.1.1.1.1.0 first);
}

pub type_from : (v : Version) (t : TypeRow ℕ) → IsTypeRow t → (has_secondary v ≡ false → IsPlainType t) → (record_type_format v).Holds t
unfolding record_type_format type_parts pair row byte two_bytes
type_from v t h plain =
    let codes = h.few_codes in
    let levels = h.few_levels in
    let inputs = h.few_inputs in (
      indicator_from t.indicator h.indicator,
      (
        either_holds (has_secondary v) (byte input_file_by_number input_file_number) Primary unused_byte t.file (file_from t.file) (refl, omega arith) (λ first. (plain first).file),
        (
          (few 100 (length t.codes) codes, omega arith),
          (
            (few 100 (length t.levels) levels, omega arith),
            (
              (few 500 (length t.inputs) inputs, omega arith),
              (
                match_count_from v (length t.matches) h.few_matches (λ first. ap length (plain first).matches),
                (
                  table_from_all record_code_format IsCodeRow code_from t.codes h.codes,
                  (
                    table_from_all control_field_format IsControlRow control_from t.levels h.levels,
                    (table_from_all input_field_format IsInputRow input_from t.inputs h.inputs, table_from_all control_field_format IsControlRow control_from t.matches h.matches),
                  ),
                ),
              ),
            ),
          ),
        ),
      ),
    )
