-- Where no smaller rule refuses an operand, the rules on operands ask all columns.
use Rattle.std.proofs.Common.{◌≡◌, ℕ, Bool, true, false, not, ◌||◌, cond, Option, None, Some, refl, ap, ◌∙◌}
use Rattle.std.proofs.lemmas.Bool.{and_parts}
use Rattle.rpg_program.specs.Forms.{form_at}
use Rattle.rpg_program.specs.Rows.{all_of, all_used, has_kind, is_valid_operand, is_writable_use}
use Rattle.rpg_program.specs.declared.operation.Instruction.{Instruction}
use Rattle.rpg_program.specs.declared.operation.Operand.{Operand}
use Rattle.rpg_program.specs.declared.row.Row.{Row}
use Rattle.rpg_program.specs.declared.row.Use.{Use}
use Rattle.rpg_program.specs.ObjectInstructions.{columns}
use Rattle.rpg_program.specs.Object.{Object}
use Rattle.rpg_verify_rules.specs.PlaceRules.{columns_of_kind, compares, valid_columns, has_known_kind, knows_kinds, passing, those_passing, written_columns}

-- ---- operands that all pass

column_same : {O : Type 0} (test : Use O → Bool) (o : Option (Use O)) → all_used test o ≡ true → passing test o ≡ o
column_same test None h = refl
column_same test (Some u) h = ap (λ (b : Bool). cond b (Some u) None) h

row_same : {O : Type 0} (test : Use O → Bool) (r : Row O) → all_of test r ≡ true → those_passing test r ≡ r
row_same test r h =
    let rest = and_parts (all_used test r.factor1) _ h in
    let last = and_parts (all_used test r.factor2) _ rest.1 in
    λ i. record { factor1 = column_same test r.factor1 rest.0 i; factor2 = column_same test r.factor2 last.0 i; result = column_same test r.result last.1 i; marks = r.marks }

first_column : {O : Type 0} (test : Use O → Bool) (r : Row O) → all_of test r ≡ true → all_used test r.factor1 ≡ true
first_column test r h = (and_parts (all_used test r.factor1) _ h).0

known : (a b : Bool) → b ≡ true → (a || b) ≡ true
known true b h = refl
known false b h = h

-- ---- an instruction

module _ (p : Object) (i : Instruction ℕ) (valid : all_of (is_valid_operand (form_at p.fields)) (columns p i) ≡ true) where
  -- V16 takes none out
  valid_same : valid_columns p i ≡ columns p i
  valid_same = row_same (is_valid_operand (form_at p.fields)) (columns p i) valid

  kinds_known : knows_kinds p i ≡ true
  kinds_known = known (not (compares i)) _ (first_column (is_valid_operand (form_at p.fields)) (columns p i) valid)

  -- V17 tests the kinds of all
  pub kinds_same : all_of (has_known_kind p i) (valid_columns p i) ≡ all_of (has_kind (form_at p.fields)) (columns p i)
  kinds_same =
      ap (λ r. all_of (has_known_kind p i) r) valid_same
      ∙ ap (λ b. all_of (λ u. not b || has_kind (form_at p.fields) u) (columns p i)) kinds_known

  module _ (kinds : all_of (has_kind (form_at p.fields)) (columns p i) ≡ true) where
    -- V18 and V19 ask all
    pub columns_same : columns_of_kind p i ≡ columns p i
    columns_same = row_same (has_known_kind p i) (valid_columns p i) (kinds_same ∙ kinds) ∙ valid_same

    -- V20 tests all
    pub written_same : all_used (is_writable_use (form_at p.fields)) (columns p i).result ≡ true → written_columns p i ≡ columns p i
    written_same writable =
        ap (λ (r : Row (Operand ℕ)). with_result r (passing (is_writable_use (form_at p.fields)) r.result)) columns_same
        ∙ ap (with_result (columns p i)) (column_same (is_writable_use (form_at p.fields)) (columns p i).result writable)
      where
        with_result : Row (Operand ℕ) → Option (Use (Operand ℕ)) → Row (Operand ℕ)
        with_result r o = record { factor1 = r.factor1; factor2 = r.factor2; result = o; marks = r.marks }
