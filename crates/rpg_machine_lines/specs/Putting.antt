-- What output of lines and their fields needs, and what it leaves as it was.
use Rattle.std.specs.Prelude.{◌≡◌, ℕ, ◌+◌, ◌<◌, ◌≤◌, true, List, length, Option, Result, OnOk}
use Rattle.rpg_paper.specs.Paper.{IsPage}
use Rattle.rpg_program.specs.Fronts.{OnlyGrows}
use Rattle.rpg_program.specs.Put.{Bytes}
use Rattle.rpg_program.specs.Rows.{has_entry, is_one_entry}
use Rattle.rpg_program.specs.declared.form.FieldForm.{FieldForm}
use Rattle.rpg_program.specs.declared.line.Spacing.{Spacing}
use Rattle.rpg_program.specs.declared.operation.Operand.{Operand}
use Rattle.rpg_machine_lines.specs.Drafts.{fields_replaced}
use Rattle.rpg_machine_lines.specs.Entries.{AreFieldEntries}
use Rattle.rpg_machine_lines.specs.Plans.{IsLinePlan, IsPlanOf, IsPlannedLine}
use Rattle.rpg_machine_lines.specs.Ready.{IsBlankAfter, IsNear, IsShort}
use Rattle.rpg_machine_lines.specs.Right.{AreRightLines, HasLineRoom, IsRightLine}
use Rattle.rpg_machine_lines.specs.declared.plan.LinePlan.{LinePlan}
use Rattle.rpg_machine_lines.specs.declared.plan.Plan.{Plan}
use Rattle.rpg_memory.specs.Memory.{Working, forms_in}
use Rattle.rpg_program.specs.Object.{file_length, line_row}
use Rattle.rpg_program.specs.declared.rows.Line.{Line}

-- ---- what is needed

-- the lines of a passage: few pages were begun, no line is wrong, there is room for each, and this was found of them
pub record CanPutLines (m : Working) (text : List ℕ) (found : Plan) : Type 0 where
  pub near : IsNear m.world.paper.here
  pub right : AreRightLines m.program
  pub room : HasLineRoom m.program text
  pub plan : IsPlanOf m.program found

-- one of them
pub record CanPutDue (m : Working) (text : List ℕ) (line : Line) (found : LinePlan) : Type 0 where
  pub near : IsNear m.world.paper.here
  pub right : IsRightLine m.program (line_row line)
  pub room : HasLineRoom m.program text
  pub planned : IsPlannedLine m.program (line_row line) found

-- one of them over a text as long as the lines of its file
pub record CanPutLine (m : Working) (text : List ℕ) (line : Line) (found : LinePlan) : Type 0 where
  pub near : IsNear m.world.paper.here
  pub page : IsPage m.program.overflow.page
  pub right : IsRightLine m.program (line_row line)
  pub planned : IsLinePlan m.program.fields line.fields.items found
  pub len : length text ≡ file_length m.program line.file

-- an assembled line: the form moves no further than it may, few pages were begun, and the text is blank after its reach
pub record CanPlace (m : Working) (moves : Spacing) (text : List ℕ) (reach : ℕ) : Type 0 where
  pub spacing : IsShort moves
  pub near : IsNear m.world.paper.here
  pub blank : IsBlankAfter reach text

-- the one entry that an operand names: its field has that form, and the operand's index can be read
pub record CanBeRead (m : Working) (own : Option FieldForm) (o : Operand ℕ) : Type 0 where
  pub form : own ≡ forms_in m o.field
  pub there : has_entry (forms_in m) o ≡ true
  pub index : is_one_entry (forms_in m) o ≡ true

-- one entry more can be remembered: those that were are fewer than 200 entries of fields
pub record CanRemember (forms : List FieldForm) (count : ℕ) (entries : List (ℕ × ℕ)) : Type 0 where
  pub room : count < 200
  pub each : AreFieldEntries forms entries

-- ---- what is left as it was

-- at most one entry more was remembered, and all are entries of fields
pub record RemembersOne (forms : List FieldForm) (before after : ℕ) (entries : List (ℕ × ℕ)) : Type 0 where
  pub each : AreFieldEntries forms entries
  pub few : after ≤ before + 1

-- the same, and of the memory only values of fields changed
pub record ChangesFields (m n : Working) (before after : ℕ) (entries : List (ℕ × ℕ)) : Type 0 where
  pub rest : n ≡ fields_replaced n.world.data.fields m
  pub each : AreFieldEntries m.program.fields entries
  pub few : after ≤ before + 1

-- of the memory only values of fields changed, and all that was remembered are entries of fields
pub record ChangesValues (m n : Working) (entries : List (ℕ × ℕ)) : Type 0 where
  pub rest : n ≡ fields_replaced n.world.data.fields m
  pub each : AreFieldEntries m.program.fields entries

-- the memory is of the program that it was of, and few pages were begun unless memory ran out
pub record StaysNear {X E : Type 0} (result : Result X E) (m n : Working) : Type 0 where
  pub near : OnOk result (IsNear n.world.paper.here)
  pub program : n.program ≡ m.program

-- the same, and bytes were only added
pub record PlacesNear {X E : Type 0} (result : Result X E) (m n : Working) (old new : Bytes) : Type 0 where
  pub near : OnOk result (IsNear n.world.paper.here)
  pub program : n.program ≡ m.program
  pub grows : OnlyGrows old new
