-- What keeps the rules has nothing wrong.
use Rattle.std.proofs.Common.{◌≡◌, ℕ, Bool, true, false, not, ◌&&◌, ◌||◌, cond, List, Option, None, Some, refl}
use Rattle.rpg_program.specs.Ends.{Fault}
use Rattle.rpg_program.specs.Forms.{has_field, is_array, is_index_form, is_plain, is_table, is_text_constant, is_writable, kind_of, may_write, same_kind}
use Rattle.rpg_program.specs.LineFaults.{KeepsFieldRules, field_fault, fits_editing, fits_source, has_kinds, has_room, has_storage, has_word, prints_page, may_change}
use Rattle.rpg_program.specs.Rows.{all_of, all_used, fits_use, has_entry, has_form, has_kind, has_shape, is_current_table, is_valid_operand, is_one, is_one_entry, is_shaped, is_stored, is_table_as, is_there, is_writable_use, is_written, lacks_storage, mixes_kinds, operand_shape}
use Rattle.rpg_program.specs.Right.{IsRightRow, KeepsRules}
use Rattle.rpg_program.specs.declared.form.Class.{Class}
use Rattle.rpg_program.specs.declared.form.Class.TheVariants as classes
use Rattle.rpg_program.specs.declared.form.FieldForm.{FieldForm}
use Rattle.rpg_edit_marks.specs.declared.code.Fill.{Fill}
use Rattle.rpg_program.specs.declared.line.Editing.{Editing}
use Rattle.rpg_program.specs.declared.line.Editing.TheVariants as editings
use Rattle.rpg_program.specs.declared.line.LineField.{LineField}
use Rattle.rpg_program.specs.declared.line.Source.{Source}
use Rattle.rpg_program.specs.declared.line.Source.TheVariants as sources
use Rattle.rpg_program.specs.declared.operation.Index.{Index}
use Rattle.rpg_program.specs.declared.operation.Index.TheVariants.{Blank, Literal, Field}
use Rattle.rpg_program.specs.declared.operation.Operand.{Operand}
use Rattle.rpg_program.specs.declared.row.Row.{Row}
use Rattle.rpg_program.specs.declared.row.Shape.{Shape}
use Rattle.rpg_program.specs.declared.row.Shape.TheVariants as shapes
use Rattle.rpg_program.specs.declared.row.Use.{Use}

both : (a b : Bool) → a ≡ true → b ≡ true → (a && b) ≡ true
both true b h g = g
both false b h g = cc

parts : (a b : Bool) → (a && b) ≡ true → (a ≡ true) × (b ≡ true)
parts true b h = (refl, h)
parts false b h = cc

or_right : (a b : Bool) → b ≡ true → (a || b) ≡ true
or_right true b h = refl
or_right false b h = h

no : (b : Bool) → b ≡ true → not b ≡ false
no true h = refl
no false h = cc

neither : (a b : Bool) → a ≡ false → b ≡ false → (a || b) ≡ false
neither true b h g = cc
neither false b h g = g

-- no array is a table
clash : (c : Class) (b : Bool) → is_array c ≡ true → is_table c ≡ true → b ≡ true
clash classes.Plain b h t = cc
clash classes.Array b h t = cc
clash classes.Table b h t = cc
clash classes.Constant b h t = cc
clash classes.Date b h t = cc

module _ {K : Type 0} (forms : K → Option FieldForm) where
  table_shape : (d : FieldForm) (index : Index K) → is_one forms d index ≡ true → is_table d.class ≡ true → has_shape forms shapes.Table d index ≡ true
  table_shape d Blank h t = both (is_table d.class) true t refl
  table_shape d (Literal n) h t = clash d.class _ h t
  table_shape d (Field k) h t = clash d.class _ (parts (is_array d.class) (is_index_form (forms k)) h).0 t

  shape_of : (s : Shape) (d : FieldForm) (index : Index K) → has_shape forms (operand_shape s) d index ≡ true → is_table_as s (Some d) ≡ true → has_shape forms s d index ≡ true
  shape_of shapes.One d index h t = h
  shape_of shapes.Whole d index h t = h
  shape_of shapes.Searched d index h t = h
  shape_of shapes.Table d index h t = table_shape d index h t

  form_of_use : (o : Option FieldForm) (u : Use (Operand K)) → is_shaped forms o (operand_shape u.shape) u.operand.index ≡ true → same_kind (kind_of o) u.kind ≡ true →
      is_table_as u.shape o ≡ true → has_form forms o u ≡ true
  form_of_use None u h k t = cc
  form_of_use (Some d) u h k t = both (same_kind d.kind u.kind) _ k (shape_of u.shape d u.operand.index h t)

  -- a column, if something stands in it
  there : (c : Option (Use (Operand K))) → all_used (is_valid_operand forms) c ≡ true → all_used (is_there forms) c ≡ true
  there None h = refl
  there (Some u) h = (parts (is_there forms u) _ h).0

  fits : (c : Option (Use (Operand K))) → all_used (is_valid_operand forms) c ≡ true → all_used (has_kind forms) c ≡ true → all_used (is_current_table forms) c ≡ true → all_used (fits_use forms) c ≡ true
  fits None h k t = refl
  fits (Some u) h k t = form_of_use (forms u.operand.field) u (parts (is_there forms u) _ h).1 k t

  written : (c : Option (Use (Operand K))) → all_used (is_writable_use forms) c ≡ true → all_used (is_written forms) c ≡ true
  written None h = refl
  written (Some u) h = or_right (not (is_stored u.shape)) _ h

  three : (test : Use (Operand K) → Bool) (r : Row (Operand K)) → all_used test r.factor1 ≡ true → all_used test r.factor2 ≡ true → all_used test r.result ≡ true → all_of test r ≡ true
  three test r a b c = both (all_used test r.factor1) _ a (both (all_used test r.factor2) _ b c)

  first : (test : Use (Operand K) → Bool) (r : Row (Operand K)) → all_of test r ≡ true → all_used test r.factor1 ≡ true
  first test r h = (parts (all_used test r.factor1) _ h).0

  second : (test : Use (Operand K) → Bool) (r : Row (Operand K)) → all_of test r ≡ true → all_used test r.factor2 ≡ true
  second test r h = (parts (all_used test r.factor2) _ (parts (all_used test r.factor1) _ h).1).0

  third : (test : Use (Operand K) → Bool) (r : Row (Operand K)) → all_of test r ≡ true → all_used test r.result ≡ true
  third test r h = (parts (all_used test r.factor2) _ (parts (all_used test r.factor1) _ h).1).1

  -- an operation that keeps the rules has nothing wrong
  pub right_row : (r : Row (Operand K)) → KeepsRules forms r → IsRightRow forms r
  unfolding lacks_storage mixes_kinds
  right_row r h =
      let at = three (is_there forms) r (there r.factor1 (first _ r h.valid)) (there r.factor2 (second _ r h.valid)) (there r.result (third _ r h.valid)) in
      let fit = three (fits_use forms) r
      (fits r.factor1 (first _ r h.valid) (first _ r h.kinds) (first _ r h.tables))
      (fits r.factor2 (second _ r h.valid) (second _ r h.kinds) (second _ r h.tables))
      (fits r.result (third _ r h.valid) (third _ r h.kinds) (third _ r h.tables)) in
      record {
        storage = no _ (both (all_of (is_there forms) r) _ at (written r.result h.result));
        kinds = neither _ _ (no (all_of (fits_use forms) r) fit) h.one_sided;
        positions = h.positions;
      }

-- ---- fields of lines

constant_there : (o : Option FieldForm) → is_text_constant o ≡ true → has_field o ≡ true
constant_there None h = cc
constant_there (Some d) h = refl

plain_written : (c : Class) → is_plain c ≡ true → is_writable c ≡ true
plain_written classes.Plain h = refl
plain_written classes.Array h = cc
plain_written classes.Table h = cc
plain_written classes.Constant h = cc
plain_written classes.Date h = cc

page_written : (o : Option FieldForm) → is_index_form o ≡ true → may_write o ≡ true
page_written None h = cc
page_written (Some d) h = plain_written d.class (parts (is_plain d.class) _ (parts (same_kind d.kind _) _ h).1).0

changed : (s : Source) (b : Bool) (o : Option FieldForm) → fits_source s o ≡ true → (not b || may_write o) ≡ true → (not (b || prints_page s) || may_write o) ≡ true
changed sources.Value true o h g = g
changed sources.Value false o h g = refl
changed sources.Page true o h g = page_written o (parts (is_index_form o) _ h).0
changed sources.Page false o h g = page_written o (parts (is_index_form o) _ h).0

no_fault : (s k : Bool) (f g : Fault) → s ≡ true → k ≡ true → cond (not s) (Some f) (cond (not k) (Some g) None) ≡ None
no_fault true true f g h e = refl
no_fault true false f g h e = cc
no_fault false k f g h e = cc

module _ {K : Type 0} (forms : K → Option FieldForm) (words : K → List ℕ) where
  word_there : (form : Option FieldForm) (e : Editing K) (fill : Fill) → fits_editing forms words form e fill ≡ true → has_word forms e ≡ true
  word_there form editings.Plain fill h = refl
  word_there form (editings.Code code) fill h = refl
  word_there form (editings.Word k) fill h = constant_there (forms k) (parts (is_text_constant (forms k)) _ (parts _ (is_text_constant (forms k) && _) h).1).0

  -- a field of a line that keeps the rules has nothing wrong
  pub right_field : (len : ℕ) (f : LineField K) → KeepsFieldRules forms words len f → field_fault forms words len f ≡ None
  unfolding field_fault
  right_field len f h =
      let o = parts (has_entry forms f.operand) (is_one_entry forms f.operand) h.operand in
      let names = both (has_entry forms f.operand) (has_word forms f.editing) o.0 (word_there (forms f.operand.field) f.editing f.fill h.editing) in
      let room = both (has_room forms words len f) (may_change forms f) h.room (changed f.source f.is_blanked (forms f.operand.field) h.source h.blanked) in
      let kinds = both (is_one_entry forms f.operand) _ o.1 (both (fits_editing forms words (forms f.operand.field) f.editing f.fill) _ h.editing h.source) in
      no_fault (has_storage forms words len f) (has_kinds forms words f) _ _ (both _ _ names room) kinds
