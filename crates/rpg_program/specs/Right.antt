-- A row of the table of operations with nothing wrong, and what the verifier's rules require of it.
use Rattle.std.specs.Prelude.{◌≡◌, true, false, Option}
use Rattle.rpg_program.specs.Rows.{all_of, all_used, has_kind, holds_positions, is_current_table, is_valid_operand, is_two_sided, is_writable_use, lacks_storage, mixes_kinds}
use Rattle.rpg_program.specs.declared.form.FieldForm.{FieldForm}
use Rattle.rpg_program.specs.declared.operation.Operand.{Operand}
use Rattle.rpg_program.specs.declared.row.Row.{Row}

module _ {K : Type 0} (forms : K → Option FieldForm) where
  -- nothing is wrong, whatever the values are: everything that it names exists, and is of the required kind, and any result of a search
  -- fits
  pub record IsRightRow (r : Row (Operand K)) : Type 0 where
    pub storage : lacks_storage forms r ≡ false
    pub kinds : mixes_kinds forms r ≡ false
    pub positions : holds_positions forms r ≡ true

  -- valid operands, of the kinds of their columns, a result that may be written, no search for both high and low, a table for what becomes
  -- current, and positions that fit
  pub record KeepsRules (r : Row (Operand K)) : Type 0 where
    pub valid : all_of (is_valid_operand forms) r ≡ true
    pub kinds : all_of (has_kind forms) r ≡ true
    pub result : all_used (is_writable_use forms) r.result ≡ true
    pub one_sided : is_two_sided r.marks ≡ false
    pub tables : all_of (is_current_table forms) r ≡ true
    pub positions : holds_positions forms r ≡ true
