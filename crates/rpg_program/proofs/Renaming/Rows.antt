-- Renaming keys commutes with what the rules ask of an operation's columns.
use Rattle.std.proofs.Common.{◌≡◌, ℕ, Bool, not, ◌&&◌, ◌||◌, cond, Option, None, Some, refl, sym, ap, ◌∙◌, subst, Ordering}
use Rattle.std.specs.Option.{option_map}
use Rattle.std.specs.Prelude.{nat_lt, nat_le, ◌^◌}
use Rattle.rpg_program.specs.Forms.{entries_of, has_field, is_array, is_index_form, is_table, kind_of, length_of, may_write, same_kind}
use Rattle.rpg_program.specs.Naming.{IsRenaming, renamed_action, renamed_index, renamed_operand}
use Rattle.rpg_program.specs.Right.{IsRightRow}
use Rattle.rpg_program.specs.Rows.{all_of, all_used, can_hold, field_of, fits_use, form_of, has_form, has_index, has_operand, has_shape, holds_all, holds_position, holds_positions, is_blank_index, is_one, is_searched, is_stored, is_there, is_two_sided, is_written, lacks_storage, mixes_kinds, row_of, use_of}
use Rattle.rpg_program.specs.declared.form.FieldForm.{FieldForm}
use Rattle.rpg_program.specs.declared.operation.Action.{Action}
use Rattle.rpg_program.specs.declared.operation.Action.TheVariants.{Compute, Divide, Assign, TakeRemainder, CrossFoot, Compare, LookUp, Move, SetIndicators}
use Rattle.rpg_program.specs.declared.operation.Index.{Index}
use Rattle.rpg_program.specs.declared.operation.Index.TheVariants.{Blank, Literal, Field}
use Rattle.rpg_program.specs.declared.operation.Operand.{Operand}
use Rattle.rpg_program.specs.declared.row.Marks.TheVariants.{Unmarked, Wanted, Sought}
use Rattle.rpg_program.specs.declared.row.Row.{Row}
use Rattle.rpg_program.specs.declared.row.Shape.{Shape}
use Rattle.rpg_program.specs.declared.row.Shape.TheVariants as shapes
use Rattle.rpg_program.specs.declared.row.Use.{Use}

abbrev renamed_use : {K L : Type 0} → (K → L) → Use (Operand K) → Use (Operand L)
renamed_use at u = record { operand = renamed_operand at u.operand; kind = u.kind; shape = u.shape }

abbrev renamed_row : {K L : Type 0} → (K → L) → Row (Operand K) → Row (Operand L)
renamed_row at r = record { factor1 = option_map (renamed_use at) r.factor1; factor2 = option_map (renamed_use at) r.factor2; result = option_map (renamed_use at) r.result; marks = r.marks }

module _ {K L : Type 0} {R : K → K → Ordering} {S : L → L → Ordering} {old : K → Option FieldForm} {new : L → Option FieldForm} {at : K → L} (r : IsRenaming R S old new at) where
  -- ---- the row of a renamed operation

  row_same : (x : Action (Operand K)) → row_of (form_of new) (renamed_action at x) ≡ renamed_row at (row_of (form_of old) x)
  unfolding row_of
  row_same (Compute g half a b c s) = refl
  row_same (Divide half a b c s) = refl
  row_same (Assign negated half b c s) = refl
  row_same (TakeRemainder c s) = refl
  row_same (CrossFoot half b c s) = refl
  row_same (Compare a b s) = λ i. record { factor1 = use_of shapes.One (kind_of (r.forms a.field i)) (renamed_operand at a); factor2 = use_of shapes.One (kind_of (r.forms a.field i)) (renamed_operand at b); result = None; marks = Wanted s }
  row_same (LookUp a b None s) = λ i. record { factor1 = use_of shapes.One (kind_of (r.forms a.field i)) (renamed_operand at a); factor2 = use_of shapes.Searched (kind_of (r.forms a.field i)) (renamed_operand at b); result = None; marks = Sought s }
  row_same (LookUp a b (Some c) s) = λ i. record { factor1 = use_of shapes.One (kind_of (r.forms a.field i)) (renamed_operand at a); factor2 = use_of shapes.Searched (kind_of (r.forms a.field i)) (renamed_operand at b); result = use_of shapes.Table (kind_of (r.forms c.field i)) (renamed_operand at c); marks = Sought s }
  row_same (Move side b c) = λ i. record { factor1 = None; factor2 = use_of shapes.One (kind_of (r.forms b.field i)) (renamed_operand at b); result = use_of shapes.One (kind_of (r.forms c.field i)) (renamed_operand at c); marks = Unmarked }
  row_same (SetIndicators on s) = refl

  -- ---- what an operand has to be

  blank_same : (x : Index K) → is_blank_index (renamed_index at x) ≡ is_blank_index x
  blank_same Blank = refl
  blank_same (Literal n) = refl
  blank_same (Field k) = refl

  one_same : (d : FieldForm) (x : Index K) → is_one new d (renamed_index at x) ≡ is_one old d x
  one_same d Blank = refl
  one_same d (Literal n) = refl
  one_same d (Field k) = ap (λ f. is_array d.class && is_index_form f) (r.forms k)

  index_same : (d : FieldForm) (x : Index K) → has_index new d (renamed_index at x) ≡ has_index old d x
  index_same d Blank = refl
  index_same d (Literal n) = refl
  index_same d (Field k) = ap has_field (r.forms k)

  operand_same : (f : Option FieldForm) (x : Index K) → has_operand new f (renamed_index at x) ≡ has_operand old f x
  operand_same None x = refl
  operand_same (Some d) x = index_same d x

  shape_same : (s : Shape) (d : FieldForm) (x : Index K) → has_shape new s d (renamed_index at x) ≡ has_shape old s d x
  shape_same shapes.One d x = one_same d x
  shape_same shapes.Whole d x = ap (λ b. is_array d.class && b) (blank_same x)
  shape_same shapes.Searched d x = λ i. cond (blank_same x i) (is_array d.class || is_table d.class) (one_same d x i)
  shape_same shapes.Table d x = ap (λ b. is_table d.class && b) (blank_same x)

  there_same : (u : Use (Operand K)) → is_there new (renamed_use at u) ≡ is_there old u
  there_same u = ap (λ f. has_operand new f (renamed_index at u.operand.index)) (r.forms u.operand.field) ∙ operand_same (old u.operand.field) u.operand.index

  written_same : (u : Use (Operand K)) → is_written new (renamed_use at u) ≡ is_written old u
  written_same u = ap (λ f. not (is_stored u.shape) || may_write f) (r.forms u.operand.field)

  fits_same : (u : Use (Operand K)) → fits_use new (renamed_use at u) ≡ fits_use old u
  fits_same u = ap (λ f. has_form new f (renamed_use at u)) (r.forms u.operand.field) ∙ by_form (old u.operand.field)
    where
      by_form : (f : Option FieldForm) → has_form new f (renamed_use at u) ≡ has_form old f u
      by_form None = refl
      by_form (Some d) = ap (λ b. same_kind d.kind u.kind && b) (shape_same u.shape d u.operand.index)

  -- ---- in all columns

  used_same : (p : Use (Operand K) → Bool) (q : Use (Operand L) → Bool) → ((u : Use (Operand K)) → q (renamed_use at u) ≡ p u) → (o : Option (Use (Operand K))) → all_used q (option_map (renamed_use at) o) ≡ all_used p o
  used_same p q same None = refl
  used_same p q same (Some u) = same u

  all_same : (p : Use (Operand K) → Bool) (q : Use (Operand L) → Bool) → ((u : Use (Operand K)) → q (renamed_use at u) ≡ p u) → (x : Row (Operand K)) → all_of q (renamed_row at x) ≡ all_of p x
  all_same p q same x = λ i. used_same p q same x.factor1 i && (used_same p q same x.factor2 i && used_same p q same x.result i)

  can_same : (x : Index K) (n : ℕ) → can_hold new (renamed_index at x) n ≡ can_hold old x n
  can_same Blank n = refl
  can_same (Literal m) n = refl
  can_same (Field k) n = λ i. nat_lt n (10 ^ length_of (r.forms k i))

  position_same : (x : Index K) (t : Option (Use (Operand K))) (n : ℕ) → holds_position new (renamed_index at x) (field_of new (option_map (renamed_use at) t)) n ≡ holds_position old x (field_of old t) n
  position_same x None n = can_same x n
  position_same x (Some u) n = λ i. can_same x n i && nat_le n (entries_of (r.forms u.operand.field i))

  holds_same : (t : Option (Use (Operand K))) (u : Use (Operand K)) → holds_all new (option_map (renamed_use at) t) (renamed_use at u) ≡ holds_all old t u
  holds_same t u = ap (λ f. holds_position new (renamed_index at u.operand.index) (field_of new (option_map (renamed_use at) t)) (entries_of f)) (r.forms u.operand.field) ∙ position_same u.operand.index t (entries_of (old u.operand.field))

  storage_same : (x : Row (Operand K)) → lacks_storage new (renamed_row at x) ≡ lacks_storage old x
  unfolding lacks_storage
  storage_same x = λ i. not (all_same (is_there old) (is_there new) there_same x i && used_same (is_written old) (is_written new) written_same x.result i)

  kinds_same : (x : Row (Operand K)) → mixes_kinds new (renamed_row at x) ≡ mixes_kinds old x
  unfolding mixes_kinds
  kinds_same x = ap (λ b. not b || is_two_sided x.marks) (all_same (fits_use old) (fits_use new) fits_same x)

  positions_same : (x : Row (Operand K)) → holds_positions new (renamed_row at x) ≡ holds_positions old x
  unfolding holds_positions
  positions_same x = used_same (λ u. not (is_searched old u.shape) || holds_all old x.result u) (λ u. not (is_searched new u.shape) || holds_all new (option_map (renamed_use at) x.result) u) (λ u. ap (λ b. not (is_searched old u.shape) || b) (holds_same x.result u)) x.factor2

  -- what is right by names is right by numbers
  pub right_same : (x : Action (Operand K)) → IsRightRow old (row_of (form_of old) x) → IsRightRow new (row_of (form_of new) (renamed_action at x))
  right_same x h = subst (IsRightRow new) (sym (row_same x)) (record {
    storage = storage_same (row_of (form_of old) x) ∙ h.storage;
    kinds = kinds_same (row_of (form_of old) x) ∙ h.kinds;
    positions = positions_same (row_of (form_of old) x) ∙ h.positions;
  })

  -- and nothing else is
  pub right_before : (x : Action (Operand K)) → IsRightRow new (row_of (form_of new) (renamed_action at x)) → IsRightRow old (row_of (form_of old) x)
  right_before x right =
      let h = subst (IsRightRow new) (row_same x) right in
      record {
        storage = sym (storage_same (row_of (form_of old) x)) ∙ h.storage;
        kinds = sym (kinds_same (row_of (form_of old) x)) ∙ h.kinds;
        positions = sym (positions_same (row_of (form_of old) x)) ∙ h.positions;
      }
