-- The answers for a source or an object that is rejected.
use Rattle.std.specs.Prelude.{ℕ, List}
use Rattle.rpg_engine.specs.Object.{Object}
use Rattle.rpg_engine.specs.Objects.{HasObjectFault, SpellsProgram}
use Rattle.rpg_cli_programs.specs.Spelling.{CompilesTo, CompilesToOther}
use Rattle.rpg_faults.specs.Source.{IsSourceRefusal}
use Rattle.rpg_cli_answers.specs.declared.answer.Answer.{Answer}
use Rattle.rpg_cli_answers.specs.declared.answer.Answer.TheVariants as answers

-- the fault that compiling finds
abbrev pub ReportsSource : Answer → List ℕ → Type 0
ReportsSource (answers.Source fault) text = IsSourceRefusal fault text
ReportsSource e text = ⊥

-- the fault that verifying finds
abbrev pub ReportsObject : Answer → List ℕ → Type 0
ReportsObject (answers.Object fault) bytes = HasObjectFault fault bytes
ReportsObject e bytes = ⊥

-- the source is compiled to these bytes, with the allowance of the program that they spell
pub record IsSourceOf (text : List ℕ) (bytes : List ℕ) : Type 0 where
  pub program : Object
  pub spelled : SpellsProgram bytes program
  pub compiled : CompilesTo text program.allowance bytes

-- with that allowance it is compiled to other bytes
pub record IsOtherSource (text : List ℕ) (bytes : List ℕ) : Type 0 where
  pub program : Object
  pub spelled : SpellsProgram bytes program
  pub compiled : CompilesToOther text program.allowance bytes

-- why a source isn't that of the bytes: they encode no program, it has a fault, or it compiles to others
abbrev pub ReportsMismatch : Answer → List ℕ → List ℕ → Type 0
ReportsMismatch (answers.Object fault) text bytes = HasObjectFault fault bytes
ReportsMismatch (answers.Source fault) text bytes = IsSourceRefusal fault text
ReportsMismatch answers.OtherSource text bytes = IsOtherSource text bytes
ReportsMismatch e text bytes = ⊥
