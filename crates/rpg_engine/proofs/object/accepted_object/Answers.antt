use Rattle.std.proofs.Common.{◌∙◌, subst, sym}
use Rattle.rpg_program.specs.Object.{Object}
use Rattle.rpg_engine.specs.Objects.{SpellsProgram}
use Rattle.rpg_engine.proofs.Refusing.{on_err, on_ok, refused_bytes}
use Rattle.rpg_engine.proofs.object.accepted_object.Goals as goal

pub returns-clause-spelled : goal.returns-clause-spelled
returns-clause-spelled c =
    on_ok c.accept.result _ _ (λ v same. subst (λ (p : Object). SpellsProgram c.args.bytes.now p) (sym same) c.in_ok-program.ensures.spelled) c.accept.ensures.same

pub returns-clause-only : goal.returns-clause-only
returns-clause-only c =
    on_ok c.accept.result _ _ (λ v same p spells. same ∙ c.in_ok-program.ensures.only p spells) c.accept.ensures.same

pub returns-clause-refused : goal.returns-clause-refused
returns-clause-refused c =
    on_err c.accept.result _ _ (λ fault is. refused_bytes fault c.args.bytes.now c.in_ok-program.program c.in_ok-program.ensures.spelled is) c.accept.ensures.refused
