-- What is right uses only what has a form.
use Rattle.std.proofs.Common.{◌≡◌, ℕ, Bool, true, false, not, ◌&&◌, cond, List, Option, None, Some, refl, ap}
use Rattle.rpg_program.specs.Ends.{Fault}
use Rattle.rpg_program.specs.Forms.{has_field}
use Rattle.rpg_program.specs.LineFaults.{field_fault, has_kinds, has_storage, has_word}
use Rattle.rpg_program.specs.Naming.{HasIndex, IsNamed, Uses}
use Rattle.rpg_program.specs.Rows.{all_of, all_used, form_of, has_index, has_operand, is_there, is_written, lacks_storage, row_of}
use Rattle.rpg_program.specs.declared.form.FieldForm.{FieldForm}
use Rattle.rpg_program.specs.declared.line.LineField.{LineField}
use Rattle.rpg_program.specs.declared.operation.Action.{Action}
use Rattle.rpg_program.specs.declared.operation.Action.TheVariants.{Compute, Divide, Assign, TakeRemainder, CrossFoot, Compare, LookUp, Move, SetIndicators}
use Rattle.rpg_program.specs.declared.operation.Index.{Index}
use Rattle.rpg_program.specs.declared.operation.Index.TheVariants.{Blank, Literal, Field}
use Rattle.rpg_program.specs.declared.operation.Operand.{Operand}
use Rattle.rpg_program.specs.declared.row.Row.{Row}

module _ {K : Type 0} (forms : K → Option FieldForm) where
  both : (a b : Bool) → (a && b) ≡ true → (a ≡ true) × (b ≡ true)
  both true b h = (refl, h)
  both false b h = cc

  yes : (b : Bool) → not b ≡ false → b ≡ true
  yes true h = refl
  yes false h = cc

  index_named : (d : FieldForm) (x : Index K) → has_index forms d x ≡ true → HasIndex forms x
  index_named d Blank h = tt
  index_named d (Literal n) h = tt
  index_named d (Field k) h = h

  pub operand_named : (o : Operand K) → has_operand forms (forms o.field) o.index ≡ true → IsNamed forms o
  operand_named o h = by_form (forms o.field) refl h
    where
      by_form : (f : Option FieldForm) → forms o.field ≡ f → has_operand forms f o.index ≡ true → IsNamed forms o
      by_form None e g = cc
      by_form (Some d) e g = (ap has_field e, index_named d o.index g)

  three : (a b c : Bool) → (a && (b && c)) ≡ true → (a ≡ true) × (b ≡ true) × (c ≡ true)
  three true true c h = (refl, refl, h)
  three true false c h = cc
  three false b c h = cc

  all_there : (r : Row (Operand K)) → lacks_storage forms r ≡ false → all_of (is_there forms) r ≡ true
  unfolding lacks_storage
  all_there r h = (both (all_of (is_there forms) r) (all_used (is_written forms) r.result) (yes _ h)).0

  -- an operation whose storage is there uses only what has a form
  pub right_uses : (x : Action (Operand K)) → lacks_storage forms (row_of (form_of forms) x) ≡ false → Uses forms x
  unfolding row_of
  right_uses (Compute g half a b c s) h = let t = three _ _ _ (all_there _ h) in (operand_named a t.0, operand_named b t.1, operand_named c t.2)
  right_uses (Divide half a b c s) h = let t = three _ _ _ (all_there _ h) in (operand_named a t.0, operand_named b t.1, operand_named c t.2)
  right_uses (Assign negated half b c s) h = let t = three true _ _ (all_there _ h) in (operand_named b t.1, operand_named c t.2)
  right_uses (TakeRemainder c s) h = let t = three true true _ (all_there _ h) in operand_named c t.2
  right_uses (CrossFoot half b c s) h = let t = three true _ _ (all_there _ h) in (operand_named b t.1, operand_named c t.2)
  right_uses (Compare a b s) h = let t = three _ _ true (all_there _ h) in (operand_named a t.0, operand_named b t.1)
  right_uses (LookUp a b None s) h = let t = three _ _ true (all_there _ h) in (operand_named a t.0, operand_named b t.1, tt)
  right_uses (LookUp a b (Some c) s) h = let t = three _ _ _ (all_there _ h) in (operand_named a t.0, operand_named b t.1, operand_named c t.2)
  right_uses (Move side b c) h = let t = three true _ _ (all_there _ h) in (operand_named b t.1, operand_named c t.2)
  right_uses (SetIndicators is_on s) h = tt

  none_first : (b c : Bool) (x y : Fault) → cond (not b) (Some x) (cond (not c) (Some y) None) ≡ None → b ≡ true
  none_first true c x y h = refl
  none_first false c x y h = cc

  -- a line's field with which nothing is wrong outputs what has a form
  pub field_named : (words : K → List ℕ) (len : ℕ) (f : LineField K) → field_fault forms words len f ≡ None → IsNamed forms f.operand
  unfolding field_fault
  field_named words len f h =
      let there = none_first (has_storage forms words len f) (has_kinds forms words f) _ _ h in
      operand_named f.operand (both _ (has_word forms f.editing) (both _ _ there).0).0
