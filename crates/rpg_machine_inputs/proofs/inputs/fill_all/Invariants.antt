use Rattle.std.proofs.Common.{◌≡◌, None, length}
use Rattle.std.specs.List.{All}
use Rattle.rpg_program.specs.Input.{input_fault, record_in}
use Rattle.rpg_machine_inputs.specs.FixedInputs.{AreFixedInputs}
use Rattle.rpg_memory.specs.Memory.{data_put, forms_in}
use Rattle.rpg_machine_inputs.proofs.inputs.fill_all.Given as goal

abbrev pub invariant-fields : goal.invariant-fields
invariant-fields g l =
    let forms = forms_in l.fn.memory in
    record {
      rest : l.memory ≡ data_put l.memory.world.data l.fn.memory;
      right : All (λ f. input_fault forms (length l.text) f ≡ None) l.left;
      found : AreFixedInputs l.fn.memory.program.fields l.left l.found;
      onward : record_in forms l.text l.left l.memory.world.data ≡ record_in forms l.text l.inputs l.fn.memory.world.data;
    }

abbrev pub decreases-fields : goal.decreases-fields
decreases-fields g l = length l.left
