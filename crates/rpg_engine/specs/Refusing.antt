-- What is rejected before anything is read: bytes that aren't an object program, a program that breaks a rule, a bad date.
use Rattle.std.specs.Prelude.{◌≡◌, ℕ, ℤ, List, Some, None, Result, Ok, Err}
use Rattle.rpg_cycle.specs.Starting.{date_in}
use Rattle.rpg_cycle.specs.declared.ends.StartFault.{StartFault}
use Rattle.rpg_cycle.specs.declared.ends.StartFault.TheVariants as starting
use Rattle.rpg_program.specs.Object.{Object}
use Rattle.rpg_verify_rules.specs.Accepted.{IsAccepted}
use Rattle.rpg_engine.specs.Objects.{HasObjectFault, SpellsProgram}
use Rattle.rpg_engine.specs.declared.fault.RunFault.{RunFault}
use Rattle.rpg_engine.specs.declared.fault.RunFault.TheVariants as faults

-- the bytes are that program's, it obeys all rules, and the date is that one
pub record IsJobOf (object date : List ℕ) (p : Object) (day : ℤ) : Type 0 where
  pub spells : SpellsProgram object p
  pub accepted : IsAccepted p
  pub dated : date_in date ≡ Some day

-- there are such a program and such a date
abbrev pub MayRun : List ℕ → List ℕ → Type 0
MayRun object date = (p : Object) × (day : ℤ) × IsJobOf object date p day

-- Bytes that aren't a program are reported by their first fault; a program that breaks a rule, by the lowest-numbered one and
-- the first row that breaks it; with an accepted program, a date that isn't six digits is reported. Everything else is reported
-- only for a job that may run; running out of memory, for any.
abbrev pub IsReportOf : {X : Type 0} → Result X RunFault → List ℕ → List ℕ → Type 0
IsReportOf (Ok x) object date = MayRun object date
IsReportOf (Err (faults.Object fault)) object date = HasObjectFault fault object
IsReportOf (Err faults.BadDate) object date = (p : Object) × SpellsProgram object p × IsAccepted p × (date_in date ≡ None)
IsReportOf (Err (faults.Read file fault)) object date = MayRun object date
IsReportOf (Err (faults.Write file sent)) object date = MayRun object date
IsReportOf (Err (faults.NoMemory cycles)) object date = Unit {0}

-- the date is a valid one
abbrev pub HasDay : List ℕ → Type 0
HasDay date = (day : ℤ) × (date_in date ≡ Some day)

-- The same for a program that is already accepted: no fault of an object is reported.
abbrev pub IsReportOfDate : {X : Type 0} → Result X RunFault → List ℕ → Type 0
IsReportOfDate (Ok x) date = HasDay date
IsReportOfDate (Err (faults.Object fault)) date = ⊥
IsReportOfDate (Err faults.BadDate) date = date_in date ≡ None
IsReportOfDate (Err (faults.Read file fault)) date = HasDay date
IsReportOfDate (Err (faults.Write file sent)) date = HasDay date
IsReportOfDate (Err (faults.NoMemory cycles)) date = Unit {0}

-- a fault of the start, as it is reported
abbrev pub start_fault : StartFault → RunFault
start_fault starting.BadDate = faults.BadDate
start_fault starting.NoMemory = faults.NoMemory 0
