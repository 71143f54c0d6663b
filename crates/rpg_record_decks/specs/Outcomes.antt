-- A result, or which card is rejected and why.
use Rattle.std.specs.Prelude.{◌≡◌, ℕ, List, ◌++◌, Option, Some, None, Result, Ok, Err, ⊤}
use Rattle.rpg_record_decks.specs.declared.fault.CardFault.{CardFault}
use Rattle.rpg_record_decks.specs.declared.fault.DeckFault.{DeckFault}
use Rattle.rpg_record_decks.specs.declared.fault.DeckFault.TheVariants as faults

-- what follows from a value, if there is one
abbrev pub and_then : {T U E : Type 0} → Result T E → (T → Result U E) → Result U E
and_then (Ok x) next = next x
and_then (Err fault) next = Err fault

-- these, and then those that follow, if there are any
abbrev pub onto : {T E : Type 0} → List T → Result (List T) E → Result (List T) E
onto xs (Ok more) = Ok (xs ++ more)
onto xs (Err fault) = Err fault

-- a value, unless there is a fault
abbrev pub unless_fault : {T : Type 0} → Option CardFault → T → Result T CardFault
unless_fault None x = Ok x
unless_fault (Some fault) x = Err fault

-- what is wrong with the card of this number
abbrev pub at_card : {T : Type 0} → ℕ → Result T CardFault → Result T DeckFault
at_card number (Ok x) = Ok x
at_card number (Err fault) = Err (faults.Card number fault)

-- the fault is the definition's, unless memory ran out
abbrev pub IsDeckFaultOf : {T : Type 0} → Result T DeckFault → DeckFault → Type 0
IsDeckFaultOf outcome (faults.Card number fault) = outcome ≡ Err (faults.Card number fault)
IsDeckFaultOf outcome faults.NoFile = outcome ≡ Err faults.NoFile
IsDeckFaultOf outcome faults.NoMemory = ⊤
