use Rattle.rpg_cycle_safety.proofs.Instructing.{output_keeps, passage_keeps}
use Rattle.rpg_verify_rules.proofs.Soundness.{sound}
use Rattle.rpg_cycle_safety.proofs.step_laws.outputs_keep.Goals as goal

pub returns-clause-passage : goal.returns-clause-passage
returns-clause-passage c = λ p pass w kept accepted h. passage_keeps p kept (sound p accepted) pass w h

pub returns-clause-output : goal.returns-clause-output
returns-clause-output c = λ p time w kept accepted h. output_keeps p kept (sound p accepted) time w h
