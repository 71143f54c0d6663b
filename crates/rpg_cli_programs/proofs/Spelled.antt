-- Bytes in which a program is read have no fault.
use Rattle.std.proofs.Common.{◌≡◌, ℕ, List, None, Ok, ap}
use Rattle.rpg_object.specs.Program.{fault_in, first_fault, reading}
use Rattle.rpg_engine.specs.Object.{Object}

pub faultless : (bytes : List ℕ) (p : Object) → reading bytes ≡ Ok p → first_fault bytes ≡ None
unfolding first_fault
faultless bytes p read = ap (fault_in bytes) read
