-- Results that follow one another.
use Rattle.std.proofs.Common.{◌≡◌, List, ◌++◌, refl, sym, ap, append_assoc, IfErr, IfOk, Result, Ok, Err}
use Rattle.rpg_record_decks.specs.Outcomes.{IsDeckFaultOf, and_then, onto}
use Rattle.rpg_record_decks.specs.declared.fault.DeckFault.{DeckFault}
use Rattle.rpg_record_decks.specs.declared.fault.DeckFault.TheVariants as faults

pub onto-onto : {T E : Type 0} → (xs ys : List T) (r : Result (List T) E) → onto xs (onto ys r) ≡ onto (xs ++ ys) r
onto-onto xs ys (Ok zs) = ap Ok (sym (append_assoc xs ys zs))
onto-onto xs ys (Err fault) = refl

-- a fault stays one whatever would follow
pub fault_then : {T U : Type 0} → (r : Result T DeckFault) (next : T → Result U DeckFault) (fault : DeckFault) → IsDeckFaultOf r fault → IsDeckFaultOf (and_then r next) fault
fault_then {T} r next (faults.Card number fault) h = ap (λ (x : Result T DeckFault). and_then x next) h
fault_then {T} r next faults.NoFile h = ap (λ (x : Result T DeckFault). and_then x next) h
fault_then r next faults.NoMemory h = tt

pub fault_onto : {T : Type 0} → (xs : List T) (r : Result (List T) DeckFault) (fault : DeckFault) → IsDeckFaultOf r fault → IsDeckFaultOf (onto xs r) fault
fault_onto xs r (faults.Card number fault) h = ap (onto xs) h
fault_onto xs r faults.NoFile h = ap (onto xs) h
fault_onto xs r faults.NoMemory h = tt

pub ok_is : {T : Type 0} → (r outcome : Result T DeckFault) → r ≡ outcome → IfOk r (λ x. outcome ≡ Ok x)
ok_is (Ok x) outcome e = sym e
ok_is (Err fault) outcome e = tt

pub fault_is : {T : Type 0} → (r outcome : Result T DeckFault) → r ≡ outcome → IfErr r (IsDeckFaultOf outcome)
fault_is (Ok x) outcome e = tt
fault_is (Err (faults.Card number fault)) outcome e = sym e
fault_is (Err faults.NoFile) outcome e = sym e
fault_is (Err faults.NoMemory) outcome e = tt
