-- The instructions of an accepted program keep what the object format requires, once their indicators and targets do.
use Rattle.std.proofs.Common.{◌≡◌, ℕ, zero, suc, ◌+◌, ◌-◌, ◌≤◌, Bool, true, false, not, ◌||◌, ◌&&◌, List, length, get_or, Option, None, Some, slice_get, refl, sym, ap, subst, arith}
use Rattle.std.proofs.lemmas.Bool.{and_parts, leb-true, not-false}
use Rattle.std.proofs.lemmas.Option.{slice_get-get_or, slice_get_within, get_or_from_slice_get}
use Rattle.std.specs.Prelude.{All, nat_le}
use Rattle.rpg_program.specs.Forms.{form_at, has_field, is_array}
use Rattle.rpg_program.specs.Instructions.{instruction_columns}
use Rattle.rpg_program.specs.Rows.{all_of, all_used, form_of, has_entry, has_index, has_operand, has_shape, is_valid_operand, is_shaped, row_of, table_use}
use Rattle.rpg_program.specs.declared.form.FieldForm.{FieldForm}
use Rattle.rpg_program.specs.declared.operation.Action.{Action}
use Rattle.rpg_program.specs.declared.operation.Action.TheVariants.{Assign, Compare, Compute, CrossFoot, Divide, LookUp, Move, SetIndicators, TakeRemainder}
use Rattle.rpg_program.specs.declared.operation.Index.{Index}
use Rattle.rpg_program.specs.declared.operation.Index.TheVariants.{Blank, Literal, Field}
use Rattle.rpg_program.specs.declared.operation.Instruction.{Instruction}
use Rattle.rpg_program.specs.declared.operation.Instruction.TheVariants.{Act, Branch, Call, Except, Return}
use Rattle.rpg_program.specs.declared.operation.Operand.{Operand}
use Rattle.rpg_program.specs.declared.row.Shape.{Shape}
use Rattle.rpg_program.specs.declared.row.Shape.TheVariants as shape
use Rattle.rpg_compile.specs.Marked.{IsMarked, IsMarkedAction, IsMarkedRow}
use Rattle.rpg_program.specs.Kept.{IsActionRow, IsAnOperand, IsFieldRow, IsIndexRow, IsInstructionRow, IsOperandRow, IsOptionalRow, IsSubroutineRow}
use Rattle.rpg_program.specs.Object.{Object, SubroutineRow}
use Rattle.rpg_program.specs.Sections.{body_of, first_place, instruction_at, section_instructions}
use Rattle.rpg_program.specs.declared.section.Section.{Section}
use Rattle.rpg_program.specs.declared.section.Section.TheVariants as section
use Rattle.rpg_verify_rules.proofs.Kept.{place_kept}
use Rattle.rpg_verify_rules.specs.Accepted.{IsAccepted}
use Rattle.rpg_verify_rules.specs.PlaceRules.{place_breaks}
use Rattle.rpg_verify_rules.specs.declared.rule.PlaceRule.TheVariants.{V16}

module _ (fields : List FieldForm) (few : length fields ≤ 4000) (rows : All IsFieldRow fields) where
  abbrev at : ℕ → Option FieldForm
  at n = form_at fields n

  -- ---- fields that are there

  number_within : (n : ℕ) → has_field (at n) ≡ true → (1 ≤ n) × (n ≤ 4000)
  number_within zero e = cc
  number_within (suc n) e = by (slice_get fields n) refl e
    where
      by : (o : Option FieldForm) → slice_get fields n ≡ o → has_field o ≡ true → (1 ≤ suc n) × (suc n ≤ 4000)
      by None is e = cc
      by (Some d) is e = let within = slice_get_within fields n d is in (omega arith, omega arith)

  row_at : (n : ℕ) (d : FieldForm) → at n ≡ Some d → IsFieldRow d
  row_at zero d e = cc
  row_at (suc n) d e = subst IsFieldRow (get_or_from_slice_get fields n d d e) (rows n d (slice_get_within fields n d e))

  -- ---- operands

  of_array : (b : Bool) (n : ℕ) (d : FieldForm) → b ≡ true → (not b || (nat_le 1 n && nat_le n d.entries)) ≡ true → (1 ≤ n) × (n ≤ d.entries)
  of_array true n d a e = let p = and_parts (nat_le 1 n) (nat_le n d.entries) e in (leb-true 1 n p.0, leb-true n d.entries p.1)
  of_array false n d a e = cc

  literal_array : (s : Shape) (d : FieldForm) (n : ℕ) → has_shape at s d (Literal n) ≡ true → is_array d.class ≡ true
  literal_array shape.One d n e = e
  literal_array shape.Whole d n e = (and_parts (is_array d.class) false e).0
  literal_array shape.Searched d n e = e
  literal_array shape.Table d n e = absurd (let no = (and_parts _ false e).1 in cc)

  index_row : (s : Shape) (d : FieldForm) (x : Index ℕ) → IsFieldRow d → has_index at d x ≡ true → has_shape at s d x ≡ true → IsIndexRow x
  index_row s d Blank row there shaped = tt
  index_row s d (Literal n) row there shaped =
      let most = row.most in
      let within = of_array (is_array d.class) n d (literal_array s d n shaped) there in
      (within.0, let high = within.1 in omega arith)
  index_row s d (Field k) row there shaped = let within = number_within k there in omega (arith, within.1)

  pub record IsRow (o : Operand ℕ) : Type 0 where
    pub row : IsOperandRow o
    pub there : IsAnOperand o

  operand_row : (s : Shape) (o : Operand ℕ) → (has_entry at o && is_shaped at (at o.field) s o.index) ≡ true → IsRow o
  operand_row s o e = by (at o.field) refl (and_parts _ _ e)
    where
      by : (f : Option FieldForm) → at o.field ≡ f → ((has_operand at f o.index ≡ true) × (is_shaped at f s o.index ≡ true)) → IsRow o
      by None is e = absurd (let no = e.0 in cc)
      by (Some d) is e =
          let within = number_within o.field (ap has_field is) in
          record {
            row = record { field = omega (arith, within.1); index = index_row s d o.index (row_at o.field d is) e.0 e.1 };
            there = λ none. absurd (omega (arith, within.0, none));
          }

  -- ---- instructions

  optional_row : (r : Option (Operand ℕ)) → all_used (is_valid_operand at) (table_use (form_of at) r) ≡ true → IsOptionalRow r
  optional_row None e = record { row = λ o is. cc; there = λ o is. cc }
  optional_row (Some r) e =
      let valid = operand_row shape.One r e in
      record { row = λ o is. let same : r ≡ o = cc in subst IsOperandRow same valid.row; there = λ o is. let same : r ≡ o = cc in subst IsAnOperand same valid.there }

  action_row : (x : Action (Operand ℕ)) → all_of (is_valid_operand at) (row_of (form_of at) x) ≡ true → IsMarkedAction x → IsActionRow x
  unfolding row_of
  action_row (Compute f half a b r s) e marked =
      let p = and_parts _ _ e in
      let q = and_parts _ _ p.1 in
      ((operand_row shape.One a p.0).row, (operand_row shape.One b q.0).row, (operand_row shape.One r q.1).row, marked)
  action_row (Divide half a b r s) e marked =
      let p = and_parts _ _ e in
      let q = and_parts _ _ p.1 in
      ((operand_row shape.One a p.0).row, (operand_row shape.One b q.0).row, (operand_row shape.One r q.1).row, marked)
  action_row (Assign negated half b r s) e marked = let p = and_parts _ _ e in ((operand_row shape.One b p.0).row, (operand_row shape.One r p.1).row, marked)
  action_row (TakeRemainder r s) e marked = ((operand_row shape.One r e).row, marked)
  action_row (CrossFoot half b r s) e marked = let p = and_parts _ _ e in ((operand_row shape.Whole b p.0).row, (operand_row shape.One r p.1).row, marked)
  action_row (Compare a b s) e marked =
      let p = and_parts _ _ e in
      let q = and_parts _ _ p.1 in
      ((operand_row shape.One a p.0).row, (operand_row shape.One b q.0).row, marked)
  action_row (LookUp a b r s) e marked =
      let p = and_parts _ _ e in
      let q = and_parts _ _ p.1 in
      ((operand_row shape.One a p.0).row, (operand_row shape.Searched b q.0).row, optional_row r q.1, marked)
  action_row (Move side b r) e marked = let p = and_parts _ _ e in ((operand_row shape.One b p.0).row, (operand_row shape.One r p.1).row)
  action_row (SetIndicators is_on s) e marked = marked

  instruction_row : (i : Instruction ℕ) → all_of (is_valid_operand at) (instruction_columns at i) ≡ true → IsMarked i → IsInstructionRow i
  instruction_row (Act x) e marked = action_row x e marked
  instruction_row Except e marked = tt
  instruction_row (Branch is_taken_where cs target) e marked = marked
  instruction_row (Call n) e marked = marked
  instruction_row (Return n) e marked = marked

-- ---- a program

module _ (p : Object) (accepted : IsAccepted p) (few : length p.fields ≤ 4000) (rows : All IsFieldRow p.fields) where
  valid_at : (s : Section) (k : ℕ) (i : Instruction ℕ) → slice_get (section_instructions p s) k ≡ Some i → all_of (is_valid_operand (form_at p.fields)) (instruction_columns (form_at p.fields) i) ≡ true
  unfolding place_breaks instruction_at
  valid_at s k i is =
      let here : slice_get (section_instructions p s) (first_place p s + k - first_place p s) ≡ Some i = subst (λ n. slice_get (section_instructions p s) n ≡ Some i) (omega arith) is in
      not-false _ (place_kept p accepted V16 (record { section = s; number = first_place p s + k }) i (omega arith, here))

  pub section_rows : (s : Section) → All IsMarked (section_instructions p s) → All IsInstructionRow (section_instructions p s)
  section_rows s marked = λ k d lt. instruction_row p.fields few rows (get_or (section_instructions p s) k d) (valid_at s k (get_or (section_instructions p s) k d) (slice_get-get_or (section_instructions p s) k d lt)) (marked k d lt)

  subroutine_row : (n : ℕ) (s : SubroutineRow) → slice_get p.subroutines n ≡ Some s → IsMarkedRow s → IsSubroutineRow s
  subroutine_row n s is marked =
      let same : body_of (slice_get p.subroutines n) ≡ s.instructions = ap body_of is in
      record { level = marked.level; instructions = subst (All IsInstructionRow) same (section_rows (section.Subroutine n) (subst (All IsMarked) (sym same) marked.instructions)) }

  pub subroutine_rows : All IsMarkedRow p.subroutines → All IsSubroutineRow p.subroutines
  subroutine_rows marked = λ k d lt. subroutine_row k (get_or p.subroutines k d) (slice_get-get_or p.subroutines k d lt) (marked k d lt)
