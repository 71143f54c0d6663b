use Rattle.std.proofs.Common.{◌≡◌, ℕ, None, subst, sym}
use Rattle.std.specs.Prelude.{All}
use Rattle.rpg_program.specs.Forms.{form_at}
use Rattle.rpg_program.specs.Input.{input_fault}
use Rattle.rpg_machine.specs.Outputs.{inputs_at}
use Rattle.rpg_cycle_safety.proofs.Accepting.{inputs_right}
use Rattle.rpg_cycle_safety.proofs.Filling.{record_keeps}
use Rattle.rpg_memory.proofs.Programs.{program_forms}
use Rattle.rpg_verify_rules.proofs.Soundness.{sound}
use Rattle.rpg_cycle_safety.proofs.step_laws.input_fields_keep.Goals as goal

pub returns : goal.returns
returns c = λ p row text w kept accepted long spelled h.
    record_keeps p (program_forms p kept) text (inputs_at p row) w (subst (λ (n : ℕ). All (λ f. input_fault (form_at p.fields) n f ≡ None) (inputs_at p row)) (sym long) (inputs_right p row (sound p accepted))) spelled h
