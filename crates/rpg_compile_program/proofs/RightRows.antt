-- Operations with nothing wrong, by keys of any kind: from the operands in their columns, and what the verifier's rules ask of them.
use Rattle.std.proofs.Common.{◌≡◌, Bool, true, false, not, ◌||◌, Option, None, Some, refl}
use Rattle.std.proofs.lemmas.Bool.{and_from, and_parts, not-false, not_from_true, or_from, or_left, or_parts, or_right}
use Rattle.rpg_cards.specs.Statements.{Acts, Begins, Statement, Ends, Executes, GoesTo, Marks, Nothing, WritesExceptions}
use Rattle.rpg_program.specs.Forms.{is_array, is_index_form, is_table, is_writable, kind_of, may_write, same_kind}
use Rattle.rpg_program.specs.Right.{IsRightRow, KeepsRules}
use Rattle.rpg_program.specs.Rows.{all_of, all_used, fits_use, form_of, has_form, has_kind, has_shape, holds_positions, is_blank_index, is_current_table, is_valid_operand, is_shaped, is_stored, is_table_as, is_there, is_two_sided, is_writable_use, is_written, lacks_storage, mixes_kinds, operand_shape, row_of}
use Rattle.rpg_program.specs.declared.form.Class.{Class}
use Rattle.rpg_program.specs.declared.form.Class.TheVariants as class
use Rattle.rpg_program.specs.declared.form.FieldForm.{FieldForm}
use Rattle.rpg_program.specs.declared.operation.Action.{Action}
use Rattle.rpg_program.specs.declared.operation.Index.{Index}
use Rattle.rpg_program.specs.declared.operation.Index.TheVariants as index
use Rattle.rpg_program.specs.declared.operation.Operand.{Operand}
use Rattle.rpg_program.specs.declared.row.Row.{Row}
use Rattle.rpg_program.specs.declared.row.Shape.{Shape}
use Rattle.rpg_program.specs.declared.row.Shape.TheVariants as shape
use Rattle.rpg_program.specs.declared.row.Use.{Use}
use Rattle.rpg_verify_rules.specs.PlaceRules.{are_marked, is_form_ascending, is_ordered}

-- ---- classes

pub never_both : (c : Class) → is_array c ≡ true → is_table c ≡ true → ⊥
never_both class.Plain a t = absurd cc
never_both class.Array a t = absurd cc
never_both class.Table a t = absurd cc
never_both class.Constant a t = absurd cc
never_both class.Date a t = absurd cc

entries_written : (c : Class) → (is_array c || is_table c) ≡ true → is_writable c ≡ true
entries_written class.Plain e = refl
entries_written class.Array e = refl
entries_written class.Table e = refl
entries_written class.Constant e = cc
entries_written class.Date e = cc

table_no_array : (c : Class) → is_table c ≡ true → not (is_array c) ≡ true
table_no_array class.Plain e = refl
table_no_array class.Array e = cc
table_no_array class.Table e = refl
table_no_array class.Constant e = refl
table_no_array class.Date e = refl

module _ {K : Type 0} (forms : K → Option FieldForm) where
  -- ---- a column

  pub record IsRightUse (u : Use (Operand K)) : Type 0 where
    pub there : is_there forms u ≡ true
    pub fits : fits_use forms u ≡ true

  abbrev pub IsRightColumn : Option (Use (Operand K)) → Type 0
  IsRightColumn None = Unit {0}
  IsRightColumn (Some u) = IsRightUse u

  column_passes : (test : Use (Operand K) → Bool) → ((u : Use (Operand K)) → IsRightUse u → test u ≡ true) → (o : Option (Use (Operand K))) → IsRightColumn o → all_used test o ≡ true
  column_passes test passes None h = refl
  column_passes test passes (Some u) h = passes u h

  column_right : (o : Option (Use (Operand K))) → all_used (is_there forms) o ≡ true → all_used (fits_use forms) o ≡ true → IsRightColumn o
  column_right None there fits = tt
  column_right (Some u) there fits = record { there = there; fits = fits }

  -- ---- all columns

  pub record AreRightColumns (r : Row (Operand K)) : Type 0 where
    pub factor1 : IsRightColumn r.factor1
    pub factor2 : IsRightColumn r.factor2
    pub result : IsRightColumn r.result

  columns_pass : (test : Use (Operand K) → Bool) → ((u : Use (Operand K)) → IsRightUse u → test u ≡ true) → (r : Row (Operand K)) → AreRightColumns r → all_of test r ≡ true
  columns_pass test passes r h =
      and_from _ _ (column_passes test passes r.factor1 h.factor1) (and_from _ _ (column_passes test passes r.factor2 h.factor2) (column_passes test passes r.result h.result))

  pub right_row : (r : Row (Operand K)) → AreRightColumns r → all_used (is_written forms) r.result ≡ true → is_two_sided r.marks ≡ false → holds_positions forms r ≡ true → IsRightRow forms r
  unfolding lacks_storage mixes_kinds
  right_row r h written one_sided positions = record {
    storage = not_from_true _ (and_from _ _ (columns_pass (is_there forms) (λ u k. k.there) r h) written);
    kinds = or_from _ _ (not_from_true _ (columns_pass (fits_use forms) (λ u k. k.fits) r h)) one_sided;
    positions = positions;
  }

  columns_right : (r : Row (Operand K)) → all_of (is_there forms) r ≡ true → all_of (fits_use forms) r ≡ true → AreRightColumns r
  columns_right r there fits =
      let t = and_parts (all_used (is_there forms) r.factor1) _ there in
      let ts = and_parts (all_used (is_there forms) r.factor2) _ t.1 in
      let f = and_parts (all_used (fits_use forms) r.factor1) _ fits in
      let fs = and_parts (all_used (fits_use forms) r.factor2) _ f.1 in
      record { factor1 = column_right r.factor1 t.0 f.0; factor2 = column_right r.factor2 ts.0 fs.0; result = column_right r.result ts.1 fs.1 }

  -- ---- what the rules ask of a column

  shaped_as_operand : (s : Shape) (d : FieldForm) (x : Index K) → has_shape forms s d x ≡ true → has_shape forms (operand_shape s) d x ≡ true
  shaped_as_operand shape.One d x e = e
  shaped_as_operand shape.Whole d x e = e
  shaped_as_operand shape.Searched d x e = e
  shaped_as_operand shape.Table d index.Blank e = table_no_array d.class (and_parts _ _ e).0
  shaped_as_operand shape.Table d (index.Literal n) e = absurd (let no = (and_parts (is_table d.class) _ e).1 in cc)
  shaped_as_operand shape.Table d (index.Field k) e = absurd (let no = (and_parts (is_table d.class) _ e).1 in cc)

  shaped_by : (f : Option FieldForm) (u : Use (Operand K)) → has_form forms f u ≡ true → is_shaped forms f (operand_shape u.shape) u.operand.index ≡ true
  shaped_by None u e = cc
  shaped_by (Some d) u e = shaped_as_operand u.shape d u.operand.index (and_parts _ _ e).1

  kind_by : (f : Option FieldForm) (u : Use (Operand K)) → has_form forms f u ≡ true → same_kind (kind_of f) u.kind ≡ true
  kind_by None u e = cc
  kind_by (Some d) u e = (and_parts _ _ e).0

  current : (s : Shape) (d : FieldForm) (x : Index K) → has_shape forms s d x ≡ true → is_table_as s (Some d) ≡ true
  current shape.One d x e = refl
  current shape.Whole d x e = refl
  current shape.Searched d x e = refl
  current shape.Table d x e = (and_parts _ _ e).0

  current_by : (f : Option FieldForm) (u : Use (Operand K)) → has_form forms f u ≡ true → is_table_as u.shape f ≡ true
  current_by None u e = cc
  current_by (Some d) u e = current u.shape d u.operand.index (and_parts _ _ e).1

  -- whole arrays, what is searched and tables may be written
  written_by_shape : (s : Shape) (d : FieldForm) (x : Index K) → has_shape forms s d x ≡ true → (not (is_stored s) || is_writable d.class) ≡ true → is_writable d.class ≡ true
  written_by_shape shape.One d x e w = w
  written_by_shape shape.Whole d x e w = entries_written d.class (or_left (is_array d.class) (is_table d.class) (and_parts (is_array d.class) (is_blank_index x) e).0)
  written_by_shape shape.Searched d index.Blank e w = entries_written d.class e
  written_by_shape shape.Searched d (index.Literal n) e w = entries_written d.class (or_left (is_array d.class) (is_table d.class) e)
  written_by_shape shape.Searched d (index.Field k) e w = entries_written d.class (or_left (is_array d.class) (is_table d.class) (and_parts (is_array d.class) (is_index_form (forms k)) e).0)
  written_by_shape shape.Table d x e w = entries_written d.class (or_right (is_array d.class) (is_table d.class) (and_parts (is_table d.class) (is_blank_index x) e).0)

  written_by : (f : Option FieldForm) (u : Use (Operand K)) → has_form forms f u ≡ true → (not (is_stored u.shape) || may_write f) ≡ true → may_write f ≡ true
  written_by None u e w = cc
  written_by (Some d) u e w = written_by_shape u.shape d u.operand.index (and_parts _ _ e).1 w

  column_written : (o : Option (Use (Operand K))) → IsRightColumn o → all_used (is_written forms) o ≡ true → all_used (is_writable_use forms) o ≡ true
  column_written None h w = refl
  column_written (Some u) h w = written_by (forms u.operand.field) u h.fits w

  -- an operation with nothing wrong keeps the rules
  pub keeps_rules : (r : Row (Operand K)) → IsRightRow forms r → KeepsRules forms r
  unfolding lacks_storage mixes_kinds
  keeps_rules r h =
      let stored = and_parts (all_of (is_there forms) r) _ (not-false _ h.storage) in
      let fit = or_parts (not (all_of (fits_use forms) r)) _ h.kinds in
      let columns = columns_right r stored.0 (not-false _ fit.0) in
      record {
        valid = columns_pass (is_valid_operand forms) (λ u k. and_from _ _ k.there (shaped_by (forms u.operand.field) u k.fits)) r columns;
        kinds = columns_pass (has_kind forms) (λ u k. kind_by (forms u.operand.field) u k.fits) r columns;
        result = column_written r.result columns.result stored.1;
        one_sided = fit.1;
        tables = columns_pass (is_current_table forms) (λ u k. current_by (forms u.operand.field) u k.fits) r columns;
        positions = h.positions;
      }

  -- ---- statements

  -- what stands in a column, if anything does, is in ascending sequence
  abbrev pub ascends : Option (Use (Operand K)) → Bool
  ascends None = true
  ascends (Some u) = is_form_ascending (forms u.operand.field)

  -- a search for the next one above or below is through what is in ascending sequence
  abbrev pub is_sought_well : Row (Operand K) → Bool
  is_sought_well r = not (is_ordered r.marks) || ascends r.factor2

  pub record IsRightAct (x : Action (Operand K)) : Type 0 where
    pub row : IsRightRow forms (row_of (form_of forms) x)
    pub marked : are_marked (row_of (form_of forms) x).marks ≡ true
    pub sought : is_sought_well (row_of (form_of forms) x) ≡ true

  abbrev pub IsRightStatement : Statement K → Type 0
  IsRightStatement (Acts x) = IsRightAct x
  IsRightStatement WritesExceptions = Unit {0}
  IsRightStatement (GoesTo l) = Unit {0}
  IsRightStatement (Executes n) = Unit {0}
  IsRightStatement (Marks l) = Unit {0}
  IsRightStatement (Begins n) = Unit {0}
  IsRightStatement (Ends l) = Unit {0}
  IsRightStatement Nothing = Unit {0}
