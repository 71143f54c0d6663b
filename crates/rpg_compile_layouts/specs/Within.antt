-- Types and lines that keep the limits of an object program.
use Rattle.std.specs.Prelude.{ℕ, ◌≤◌, List, All, length}
use Rattle.rpg_cards.specs.Keys.{Key}
use Rattle.rpg_program.specs.Input.{TypeRow}
use Rattle.rpg_program.specs.declared.condition.Condition.{Condition}
use Rattle.rpg_program.specs.declared.line.LineField.{LineField}
use Rattle.rpg_program.specs.Kept.{IsIndexRow}
use Rattle.rpg_program.specs.Object.{LineRow}

-- a record type within the limits of an object
pub record IsTypeWithin (t : TypeRow Key) : Type 0 where
  pub codes : length t.codes ≤ 100
  pub levels : length t.levels ≤ 100
  pub inputs : length t.inputs ≤ 500
  pub matches : length t.matches ≤ 9

-- the index of an output field is one that a row can have
abbrev pub HasIndexRow : LineField ℕ → Type 0
HasIndexRow f = IsIndexRow f.operand.index

-- conditions that a row has room for
abbrev pub AreFew : List Condition → Type 0
AreFew conditions = length conditions ≤ 60

-- a line within the limits of an object
pub record IsLineWithin (l : LineRow) : Type 0 where
  pub few_alternatives : length l.alternatives ≤ 50
  pub alternatives : All AreFew l.alternatives
  pub few_fields : length l.fields ≤ 200
  pub indices : All HasIndexRow l.fields
