-- The text of a program, table by table.
use Rattle.std.proofs.Common.{◌≡◌, ℕ, List, ◌++◌, length, sym, ap, ◌∙◌, append_assoc}
use Rattle.rpg_object_format.specs.Format.{pair, row, table}
use Rattle.rpg_program.specs.Object.{Object}
use Rattle.rpg_object_format.specs.Instructions.{instruction}
use Rattle.rpg_object_rows.specs.Lines.{line}
use Rattle.rpg_object_rows.specs.Types.{record_type_format}
use Rattle.rpg_object.specs.Fields.{fields}
use Rattle.rpg_object.specs.FirstValues.{values_format}
use Rattle.rpg_object.specs.Header.{header_format}
use Rattle.rpg_object.specs.Program.{body, header_of, tables}
use Rattle.rpg_object.specs.Subroutines.{subroutines}
use Rattle.rpg_object.proofs.SubroutineLaws.{subroutines_text}

module _ (p : Object) where
  abbrev head_text : List ℕ
  head_text = header_format.spelling (header_of p)

  abbrev fields_text : List ℕ
  fields_text = (fields (length p.fields)).spelling p.fields

  abbrev values_text : List ℕ
  values_text = (values_format p.fields).spelling p.values

  abbrev types_text : List ℕ
  types_text = (table (length p.types) (record_type_format p.version)).spelling p.types

  abbrev lines_text : List ℕ
  lines_text = (table (length p.lines) line).spelling p.lines

  abbrev detail_text : List ℕ
  detail_text = (table (length p.detail) instruction).spelling p.detail

  abbrev total_text : List ℕ
  total_text = (table (length p.total) instruction).spelling p.total

  abbrev all_subroutines_text : List ℕ
  all_subroutines_text = (subroutines (length p.subroutines) 8192).spelling p.subroutines

  abbrev rest_text : List ℕ → List ℕ
  rest_text last = head_text ++ (fields_text ++ (values_text ++ (types_text ++ (lines_text ++ (detail_text ++ (total_text ++ last))))))

  -- its header, then its tables
  body_text : body.spelling p ≡ rest_text all_subroutines_text
  unfolding body tables row pair
  body_text = ap rest_text (subroutines_text _ _ p.subroutines ∙ sym (subroutines_text (length p.subroutines) 8192 p.subroutines))

  regrouped : (old a b c d e f g h : List ℕ) → (((((((old ++ a) ++ b) ++ c) ++ d) ++ e) ++ f) ++ g) ++ h ≡ old ++ (a ++ (b ++ (c ++ (d ++ (e ++ (f ++ (g ++ h)))))))
  regrouped old a b c d e f g h = simp append_assoc

  pub program_written : (old o1 o2 o3 o4 o5 o6 o7 new : List ℕ) → o1 ≡ old ++ head_text → o2 ≡ o1 ++ fields_text → o3 ≡ o2 ++ values_text → o4 ≡ o3 ++ types_text → o5 ≡ o4 ++ lines_text → o6 ≡ o5 ++ detail_text → o7 ≡ o6 ++ total_text → new ≡ o7 ++ all_subroutines_text → new ≡ old ++ body.spelling p
  program_written old o1 o2 o3 o4 o5 o6 o7 new e1 e2 e3 e4 e5 e6 e7 e8 =
      e8 ∙ ap (λ (t : List ℕ). t ++ all_subroutines_text) (e7 ∙ ap (λ (t : List ℕ). t ++ total_text) (e6 ∙ ap (λ (t : List ℕ). t ++ detail_text) (e5 ∙ ap (λ (t : List ℕ). t ++ lines_text) (e4 ∙ ap (λ (t : List ℕ). t ++ types_text) (e3 ∙ ap (λ (t : List ℕ). t ++ values_text) (e2 ∙ ap (λ (t : List ℕ). t ++ fields_text) e1))))))
      ∙ regrouped old head_text fields_text values_text types_text lines_text detail_text total_text all_subroutines_text
      ∙ ap (λ (t : List ℕ). old ++ t) (sym body_text)
