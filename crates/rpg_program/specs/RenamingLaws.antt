-- What a renaming keeps, as laws. R and S order the keys.
use Rattle.std.specs.Prelude.{◌≡◌, ◌↔◌, ℕ, true, List, map, Option, Some}
use Rattle.std.specs.Ordering.{nat_cmp}
use Rattle.std.specs.declared.cmp.Ordering.{Ordering}
use Rattle.rpg_program.specs.Forms.{has_field}
use Rattle.rpg_program.specs.Input.{record_in}
use Rattle.rpg_program.specs.Lines.{Line, lines_out}
use Rattle.rpg_program.specs.Operate.{operate}
use Rattle.rpg_program.specs.Right.{IsRightRow}
use Rattle.rpg_program.specs.Rows.{form_of, row_of}
use Rattle.rpg_program.specs.World.{Data, World}
use Rattle.rpg_program.specs.declared.form.FieldForm.{FieldForm}
use Rattle.rpg_program.specs.declared.input.InputField.{InputField}
use Rattle.rpg_program.specs.declared.line.Pass.{Pass}
use Rattle.rpg_program.specs.declared.operation.Action.{Action}
use Rattle.rpg_program.specs.declared.operation.Operand.{Operand}
use Rattle.rpg_program.specs.declared.rows.Overflow.{Overflow}
use Rattle.rpg_program.specs.Naming.{Agree, AgreeData, AreNamed, IsRenaming, SameEffect, SameEnd, Uses, renamed_action, renamed_input, renamed_line}

-- an operation whose operands have forms does the same by both names
abbrev pub OperationsAgree : {K L : Type 0} → (K → K → Ordering) → (L → L → Ordering) → Type 0
OperationsAgree {K} {L} R S =
    (old : K → Option FieldForm) (new : L → Option FieldForm) (at : K → L) → IsRenaming R S old new at
    → (x : Action (Operand K)) (v : Data R) (w : Data S) → AgreeData old at v w → Uses old x
    → SameEnd old at (operate old x v) (operate new (renamed_action at x) w)

-- so do lines, of exceptions and of each other time, if their edit words are the same
abbrev pub LinesAgree : {K L : Type 0} → (K → K → Ordering) → (L → L → Ordering) → Type 0
LinesAgree {K} {L} R S =
    (old : K → Option FieldForm) (new : L → Option FieldForm) (at : K → L) → IsRenaming R S old new at
    → (words : K → List ℕ) (new_words : L → List ℕ) → ((k : K) → new_words (at k) ≡ words k)
    → (overflow : Overflow) (pass : Pass) (ls : List (Line K)) (v : World R) (w : World S) → Agree old at v w → AreNamed old ls
    → SameEffect old at (lines_out old words overflow pass ls v) (lines_out new new_words overflow pass (map (renamed_line at) ls) w)

-- and so do the input fields of a record
abbrev pub InputsAgree : {K L : Type 0} → (K → K → Ordering) → (L → L → Ordering) → Type 0
InputsAgree {K} {L} R S =
    (old : K → Option FieldForm) (new : L → Option FieldForm) (at : K → L) → IsRenaming R S old new at
    → (text : List ℕ) (fs : List (InputField K)) (v : Data R) (w : Data S) → AgreeData old at v w
    → SameEnd old at (record_in old text fs v) (record_in new text (map (renamed_input at) fs) w)

-- the rules on an operation's operands reject it by both names or by neither
abbrev pub RowsAgree : {K L : Type 0} → (K → K → Ordering) → (L → L → Ordering) → Type 0
RowsAgree {K} {L} R S =
    (old : K → Option FieldForm) (new : L → Option FieldForm) (at : K → L) → IsRenaming R S old new at
    → (x : Action (Operand K)) → IsRightRow old (row_of (form_of old) x) ↔ IsRightRow new (row_of (form_of new) (renamed_action at x))

-- If each key that has a form is found by its number, each world by numbers has a world by names that agrees with it.
abbrev pub WorldsAgree : {K : Type 0} → (K → K → Ordering) → Type 0
WorldsAgree {K} R =
    (old : K → Option FieldForm) (new : ℕ → Option FieldForm) (at : K → ℕ) → IsRenaming R nat_cmp old new at
    → (back : ℕ → Option K)
    → ((k : K) → has_field (old k) ≡ true → back (at k) ≡ Some k)
    → ((n : ℕ) (k : K) → back n ≡ Some k → (at k ≡ n) × (has_field (old k) ≡ true))
    → (w : World nat_cmp) → (v : World R) × Agree old at v w
