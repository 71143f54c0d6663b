-- A text, or why there is none.
use Rattle.std.specs.Prelude.{◌≡◌, ℕ, List, ◌++◌, Option, Some, None, Result, Ok, Err, ⊤}
use Rattle.rpg_record_lines.specs.declared.fault.LineFault.{LineFault}
use Rattle.rpg_record_lines.specs.declared.fault.LineFault.TheVariants as stops
use Rattle.rpg_record_lines.specs.declared.fault.RecordFault.{RecordFault}

-- a text, or what is wrong with the record or the line that it is made of
abbrev pub TextOrFault : Type 0
TextOrFault = Result (List ℕ) RecordFault

-- what follows from a text, if there is one
abbrev pub text_and_then : TextOrFault → (List ℕ → TextOrFault) → TextOrFault
text_and_then (Ok text) next = next text
text_and_then (Err fault) next = Err fault

-- one text after the other, or the first fault
abbrev pub joined_texts : TextOrFault → TextOrFault → TextOrFault
joined_texts (Ok text) (Ok more) = Ok (text ++ more)
joined_texts (Ok text) (Err fault) = Err fault
joined_texts (Err fault) rest = Err fault

-- what exists, or a fault
abbrev pub some_or : {T E : Type 0} → E → Option T → Result T E
some_or fault (Some x) = Ok x
some_or fault None = Err fault

-- the fault is that of the definition, unless memory ran out
abbrev pub IsLineFaultOf : {T : Type 0} → Result T RecordFault → LineFault → Type 0
IsLineFaultOf outcome (stops.Record fault) = outcome ≡ Err fault
IsLineFaultOf outcome stops.NoMemory = ⊤
