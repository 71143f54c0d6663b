-- What decoding returns.
use Rattle.std.specs.Prelude.{◌≡◌, ℕ, ◌++◌, List, codes, Option, Some, None, Result, Ok, Err}
use Rattle.std.specs.Fmt.{decimal}
use Rattle.rpg_object_format.specs.CodeTexts.{code_text}
use Rattle.rpg_object_format.specs.declared.fault.Code.{Code}
use Rattle.rpg_object.specs.declared.decoding.DecodeFault.{DecodeFault}
use Rattle.rpg_object.specs.declared.decoding.DecodeFault.TheVariants as faults

-- how a fault is printed: `B5 at 117`
abbrev pub fault_text : DecodeFault → List ℕ
fault_text (faults.Object offset code) = code_text code ++ codes " at " ++ decimal offset
fault_text faults.NoMemory = codes "out of memory"

-- an Ok whose value satisfies this, or memory ran out
abbrev pub IsOkBarMemory : {X : Type 0} → Result X DecodeFault → (X → Type 0) → Type 0
IsOkBarMemory (Ok x) P = P x
IsOkBarMemory (Err faults.NoMemory) P = Unit {0}
IsOkBarMemory (Err (faults.Object offset code)) P = ⊥

-- an Ok if there is no fault, otherwise the fault, unless memory ran out
abbrev pub FaultIs : {X : Type 0} → Result X DecodeFault → Option (ℕ × Code) → Type 0
FaultIs (Ok x) first = first ≡ None
FaultIs (Err faults.NoMemory) first = Unit {0}
FaultIs (Err (faults.Object offset code)) first = first ≡ Some (offset, code)
