-- What holds for every source that compiles.
use Rattle.std.specs.Prelude.{◌≡◌, ℕ, ℤ, List, Some}
use Rattle.rpg_compile.specs.Compile.{Compiles}
use Rattle.rpg_cycle.specs.Runs.{Records}
use Rattle.rpg_cycle.specs.Starting.{date_in}
use Rattle.rpg_engine.specs.Outputs.{Contents}
use Rattle.rpg_engine.specs.Reporting.{Reports, SendsFirstParts}
use Rattle.rpg_engine.specs.declared.fault.RunFault.{RunFault}
use Rattle.rpg_engine.specs.declared.report.Report.{Report}
use Rattle.rpg_faults.specs.Source.{cards_in}
use Rattle.rpg_program.specs.Kept.{IsProgram}
use Rattle.rpg_program.specs.Object.{Object}
use Rattle.rpg_meaning.specs.Sources.Printing.{OnlyRun, PrintsAsMeant, SendsPartsAsMeant}

-- for each text with the program that it compiles to, on each day
abbrev pub OfCompiled : (List ℕ → ℕ → Object → ℤ → Type 0) → Type 0
OfCompiled Said = (text : List ℕ) (allowance : ℕ) (p : Object) → IsProgram p → Compiles text allowance p → (digits : List ℕ) (day : ℤ) → date_in digits ≡ Some day → Said text allowance p day

-- its cards have one run over any records
abbrev pub HasOneMeaning : List ℕ → ℕ → Object → ℤ → Type 0
HasOneMeaning text allowance p day = (records : Records) → OnlyRun (cards_in text) allowance day records

-- a report of a run of its program is of the run of its cards, with all its bytes
abbrev pub PrintsItsMeaning : List ℕ → ℕ → Object → ℤ → Type 0
PrintsItsMeaning text allowance p day = (report : Report) (before after : Contents) (primary secondary : List ℕ)
    → Reports p day report before after primary secondary → PrintsAsMeant (cards_in text) allowance day report before after primary secondary

-- the first parts that a run of its program sends before it stops are of the bytes of the run of its cards
abbrev pub SendsItsMeaning : List ℕ → ℕ → Object → ℤ → Type 0
SendsItsMeaning text allowance p day = (e : RunFault) (before after : Contents) (primary secondary : List ℕ)
    → SendsFirstParts p day e before after primary secondary → SendsPartsAsMeant (cards_in text) allowance day e before after primary secondary
