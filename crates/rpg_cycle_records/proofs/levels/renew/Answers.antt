use Rattle.std.proofs.Common.{Some, None, Bool, cond, ap, sym, ◌∙◌}
use Rattle.rpg_cycle_records.proofs.Joining.{same_bytes-true}
use Rattle.rpg_cycle_records.proofs.levels.renew.Goals as goal

pub returns-then-is_joined-clause-kept : goal.returns-then-is_joined-clause-kept
returns-then-is_joined-clause-kept c =
    ap (λ (b : Bool). cond b (Some c.args.last.now.bytes.items) None) c.if-last.true
    ∙ ap Some (sym c.deref.ensures.value ∙ same_bytes-true _ _ (sym c.is_joined.ensures ∙ c.if-is_joined.true))
