-- The bytes of record types and lines: their numbers, then their tables.
use Rattle.std.proofs.Common.{◌≡◌, ℕ, false, List, ◌++◌, map, refl, sym, ap, ◌∙◌, append_assoc}
use Rattle.std.proofs.lemmas.List.{map-id}
use Rattle.rpg_program.specs.Input.{TypeRow}
use Rattle.rpg_object_format.specs.Format.{byte, keep, pair, row, spelled_along, times_with, two_bytes}
use Rattle.rpg_program.specs.Kept.{IsPlainType}
use Rattle.rpg_program.specs.Object.{LineRow, has_secondary}
use Rattle.rpg_program.specs.declared.rows.Version.{Version}
use Rattle.rpg_program.specs.declared.rows.Version.TheVariants as versions
use Rattle.rpg_object_format.specs.Indicators.{alternative}
use Rattle.rpg_object_rows.specs.Lines.{line, line_field, line_head, line_parts, spacing}
use Rattle.rpg_object_format.specs.Shapes.{no_number, row_where}
use Rattle.rpg_object_rows.specs.Types.{control_field_format, input_field_format, record_code_format, record_type_format, type_head, type_parts}

-- the bytes of rows
abbrev texts : {X : Type 0} → (X → List ℕ) → List X → List ℕ
texts spell xs = spelled_along (λ s x. spell x) keep tt xs

-- rows that are seen as they are
pub as_they_are : {X : Type 0} (spell : X → List ℕ) (xs : List X) (old new : List ℕ) → new ≡ old ++ texts spell (map (λ x. x) xs) → new ≡ old ++ texts spell xs
as_they_are spell xs old new e = e ∙ ap (λ (ys : List _). old ++ texts spell ys) (map-id xs)

-- the bytes of the tables of a type
abbrev tables_text : TypeRow ℕ → List ℕ
tables_text t = texts record_code_format.spelling t.codes ++ (texts control_field_format.spelling t.levels ++ (texts input_field_format.spelling t.inputs ++ texts control_field_format.spelling t.matches))

type_text : (v : Version) (t : TypeRow ℕ) → (has_secondary v ≡ false → IsPlainType t) → (record_type_format v).spelling t ≡ type_head v t ++ tables_text t
unfolding record_type_format type_parts byte two_bytes pair row row_where no_number times_with
type_text versions.One t plain = rw (plain refl).file refl
type_text versions.Two t plain = refl
type_text versions.Three t plain = refl

pub type_written : (v : Version) (t : TypeRow ℕ) → (has_secondary v ≡ false → IsPlainType t) → (old o1 o2 o3 o4 new : List ℕ) → o1 ≡ old ++ type_head v t → o2 ≡ o1 ++ texts record_code_format.spelling t.codes
    → o3 ≡ o2 ++ texts control_field_format.spelling t.levels → o4 ≡ o3 ++ texts input_field_format.spelling t.inputs → new ≡ o4 ++ texts control_field_format.spelling t.matches → new ≡ old ++ (record_type_format v).spelling t
type_written v t plain old o1 o2 o3 o4 new a b c d e =
    e ∙ ap (λ (x : List ℕ). x ++ texts control_field_format.spelling t.matches) (d ∙ ap (λ (x : List ℕ). x ++ texts input_field_format.spelling t.inputs) (c ∙ ap (λ (x : List ℕ). x ++ texts control_field_format.spelling t.levels) (b ∙ ap (λ (x : List ℕ). x ++ texts record_code_format.spelling t.codes) a)))
    ∙ regrouped old (type_head v t) (texts record_code_format.spelling t.codes) (texts control_field_format.spelling t.levels) (texts input_field_format.spelling t.inputs) (texts control_field_format.spelling t.matches)
    ∙ ap (λ (x : List ℕ). old ++ x) (sym (type_text v t plain))
  where
    regrouped : (old a b c d e : List ℕ) → ((((old ++ a) ++ b) ++ c) ++ d) ++ e ≡ old ++ (a ++ (b ++ (c ++ (d ++ e))))
    regrouped old a b c d e = simp append_assoc

line_text : (l : LineRow) → line.spelling l ≡ line_head l ++ (texts alternative.spelling l.alternatives ++ texts line_field.spelling l.fields)
unfolding line line_parts spacing byte two_bytes pair row times_with
line_text l = refl

pub line_written : (l : LineRow) (old o1 o2 new : List ℕ) → o1 ≡ old ++ line_head l → o2 ≡ o1 ++ texts alternative.spelling l.alternatives → new ≡ o2 ++ texts line_field.spelling l.fields → new ≡ old ++ line.spelling l
line_written l old o1 o2 new a b c =
    c ∙ ap (λ (x : List ℕ). x ++ texts line_field.spelling l.fields) (b ∙ ap (λ (x : List ℕ). x ++ texts alternative.spelling l.alternatives) a)
    ∙ regrouped old (line_head l) (texts alternative.spelling l.alternatives) (texts line_field.spelling l.fields)
    ∙ ap (λ (x : List ℕ). old ++ x) (sym (line_text l))
  where
    regrouped : (old a b c : List ℕ) → ((old ++ a) ++ b) ++ c ≡ old ++ (a ++ (b ++ c))
    regrouped old a b c = simp append_assoc
