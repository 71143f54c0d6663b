use Rattle.std.proofs.Common.{refl, arith}
use Rattle.rpg_program.specs.Object.{seen}
use Rattle.rpg_object.specs.Program.{first_fault}
use Rattle.rpg_object.proofs.ObjectLaws.{all_takes, all_within, only_one, no_fault}
use Rattle.rpg_object.proofs.PlainPrograms.{program_kept, program_from}
use Rattle.rpg_object.proofs.decoding.decode.Goals as goal

pub build-requires : goal.build-requires
build-requires c = program_kept (seen c.in-Ok.rows) (all_takes c.args.bytes.now (seen c.in-Ok.rows) (λ i. omega (arith, c.type_inv.bytes i)) c.in-Ok.ensures).0

pub returns-in-Ok-clause-found : goal.returns-in-Ok-clause-found
returns-in-Ok-clause-found c =
    let t = all_takes c.args.bytes.now (seen c.in-Ok.rows) (λ i. omega (arith, c.type_inv.bytes i)) c.in-Ok.ensures in
    rw c.build.ensures (program_kept (seen c.in-Ok.rows) t.0, t.1)

pub returns-in-Ok-clause-only : goal.returns-in-Ok-clause-only
returns-in-Ok-clause-only c = λ p h e. rw c.build.ensures (only_one c.args.bytes.now (seen c.in-Ok.rows) p c.in-Ok.ensures (program_from p h) e)

pub returns-in-Ok-clause-fault : goal.returns-in-Ok-clause-fault
unfolding first_fault
returns-in-Ok-clause-fault c = rw c.in-Ok.ensures refl

pub overflow_sub-result : goal.overflow_sub-result
overflow_sub-result c = all_within c.args.bytes.now c.in-Err-At.fault (λ i. omega (arith, c.type_inv.bytes i)) (rw c.in-Err-At.field-0-is at c.in-Err-At.ensures)

pub returns-in-Err-At-clause-only : goal.returns-in-Err-At-clause-only
returns-in-Err-At-clause-only c = λ p h e. no_fault c.args.bytes.now c.in-Err-At.fault p (rw c.in-Err-At.field-0-is at c.in-Err-At.ensures) (program_from p h) e

pub returns-in-Err-At-clause-fault : goal.returns-in-Err-At-clause-fault
unfolding first_fault
returns-in-Err-At-clause-fault c = rw (rw c.in-Err-At.field-0-is at c.in-Err-At.ensures) refl
