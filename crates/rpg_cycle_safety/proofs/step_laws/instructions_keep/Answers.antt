use Rattle.rpg_cycle_safety.proofs.Instructing.{instruction_keeps}
use Rattle.rpg_verify_rules.proofs.Soundness.{sound}
use Rattle.rpg_cycle_safety.proofs.step_laws.instructions_keep.Goals as goal

pub returns : goal.returns
returns c = λ p x i w kept accepted at h. instruction_keeps p kept (sound p accepted) x i w at h
