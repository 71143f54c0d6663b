-- What the laws of steps and of sections state.
use Rattle.std.specs.Prelude.{◌≡◌, ℕ, All, List, length, true}
use Rattle.std.specs.FinMap as map
use Rattle.std.specs.Ordering.{nat_cmp}
use Rattle.rpg_program.specs.Ends.{End}
use Rattle.rpg_program.specs.Forms.{form_at}
use Rattle.rpg_program.specs.Input.{record_in}
use Rattle.rpg_program.specs.Operate.{operate}
use Rattle.rpg_program.specs.Right.{IsRightRow}
use Rattle.rpg_program.specs.Rows.{form_of, row_of}
use Rattle.rpg_program.specs.World.{Data}
use Rattle.rpg_program.specs.declared.operation.Action.{Action}
use Rattle.rpg_program.specs.declared.operation.Operand.{Operand}
use Rattle.rpg_cycle_safety.specs.Holding.{Holds, KeepsData}
use Rattle.rpg_cycle_safety.specs.Leading.{EndsWell, HasSectionRun, StandsWell, StaysInBound}
use Rattle.rpg_machine.specs.Chain.{IsSafe}
use Rattle.rpg_machine.specs.Config.{Config, Output}
use Rattle.rpg_machine.specs.Outputs.{inputs_at, length_at}
use Rattle.rpg_machine.specs.Run.{RunsTo, at_first, run}
use Rattle.rpg_machine.specs.Step.{Next, step}
use Rattle.rpg_program.specs.Kept.{IsCharacter, IsProgram}
use Rattle.rpg_program.specs.Object.{Object}
use Rattle.rpg_program.specs.Sections.{has_end}
use Rattle.rpg_program.specs.declared.section.Section.{Section}
use Rattle.rpg_verify_rules.specs.Accepted.{IsAccepted}

-- an operation whose row has no fault preserves what holds of the values
abbrev pub OperationsKeep : Type 0
OperationsKeep =
    (p : Object) (a : Action (Operand ℕ)) (d : Data nat_cmp)
    → IsProgram p → IsRightRow (form_at p.fields) (row_of (form_of (form_at p.fields)) a) → Holds p d → KeepsData p (operate (form_at p.fields) a d)

-- so do the input fields of a record type, over a record as long as its file's records
abbrev pub InputFieldsKeep : Type 0
InputFieldsKeep =
    (p : Object) (row : ℕ) (text : List ℕ) (d : Data nat_cmp)
    → IsProgram p → IsAccepted p → length text ≡ length_at p row → All IsCharacter text → Holds p d
    → KeepsData p (record_in (form_at p.fields) text (inputs_at p row) d)

-- a step from a safe place leads to a safe one, and the steps so far plus those that may still come don't grow
abbrev pub StepsStayInBound : Type 0
StepsStayInBound =
    (p : Object) (c d : Config) (o : Output) → IsProgram p → IsAccepted p → (before : IsSafe p c) → step p c ≡ Next d o → StaysInBound p c d before

-- detail and total calculations have a run from any configuration with valid values in which no subroutine runs
abbrev pub SectionsHaveRuns : Type 0
SectionsHaveRuns =
    (p : Object) (section : Section) (c : Config)
    → IsProgram p → IsAccepted p → has_end section ≡ true → c.cells ≡ map.empty → Holds p c.world.data → HasSectionRun p section c

-- each of their runs ends well
abbrev pub SectionsEndWell : Type 0
SectionsEndWell =
    (p : Object) (section : Section) (c : Config) (e : End) (d : Config) (o : Output)
    → IsProgram p → IsAccepted p → has_end section ≡ true → c.cells ≡ map.empty → Holds p c.world.data
    → RunsTo p section c e d o → EndsWell p section c e d

-- and after any number of steps it is at a valid place
abbrev pub SectionsStandWell : Type 0
SectionsStandWell =
    (p : Object) (section : Section) (n : ℕ) (c : Config)
    → IsProgram p → IsAccepted p → has_end section ≡ true → c.cells ≡ map.empty → Holds p c.world.data → StandsWell p (run p n (at_first p section c))
