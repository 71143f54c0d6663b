-- What holds of values while a program runs.
use Rattle.std.specs.Prelude.{◌≡◌, All, ℕ, ◌≤◌, ◌<◌, ◌^◌, true, unsigned_abs, List, length, Option, None, Some, unwrap_or}
use Rattle.std.specs.FinMap as map
use Rattle.rpg_program.specs.Forms.{entries_of, form_at, is_constant, is_table_form}
use Rattle.rpg_program.specs.Values.{Value, Number, Text}
use Rattle.rpg_program.specs.declared.form.FieldForm.{FieldForm}
use Rattle.rpg_program.specs.declared.form.Kind.{Kind}
use Rattle.rpg_program.specs.declared.form.Kind.TheVariants as kinds
use Rattle.rpg_program.specs.Kept.{IsCharacter}
use Rattle.rpg_program.specs.Object.{Object}
use Rattle.rpg_store.specs.First.{first_contents}
use Rattle.rpg_store.specs.Store.{Currents, Values}

-- a number with this many digits, or a text with this many characters
abbrev pub HasForm : Kind → ℕ → Option Value → Type 0
HasForm kinds.Number len (Some (Number n)) = unsigned_abs n < 10 ^ len
HasForm kinds.Text len (Some (Text text)) = length text ≡ len
HasForm kinds.Number len (Some (Text text)) = ⊥
HasForm kinds.Text len (Some (Number n)) = ⊥
HasForm k len None = ⊥

-- each entry of a field has a value of the field's form, texts consist of characters, and the current entry of a table is one of its
-- entries
pub record Fits (forms : List FieldForm) (values : Values) (current : Currents) : Type 0 where
  pub each : (field : ℕ) (d : FieldForm) → form_at forms field ≡ Some d → (n : ℕ) → 1 ≤ n → n ≤ d.entries → HasForm d.kind d.length (map.get values (field, n))
  pub characters : (field n : ℕ) (text : List ℕ) → map.get values (field, n) ≡ Some (Text text) → All IsCharacter text
  pub low : (field : ℕ) → is_table_form (form_at forms field) ≡ true → 1 ≤ unwrap_or (map.get current field) 1
  pub high : (field : ℕ) → is_table_form (form_at forms field) ≡ true → unwrap_or (map.get current field) 1 ≤ entries_of (form_at forms field)

-- constants have their first values
abbrev pub KeepsConstants : Object → Values → Type 0
KeepsConstants p values = (field : ℕ) (d : FieldForm) → form_at p.fields field ≡ Some d → is_constant d.class ≡ true → (n : ℕ) → map.get values (field, n) ≡ map.get (first_contents p) (field, n)
