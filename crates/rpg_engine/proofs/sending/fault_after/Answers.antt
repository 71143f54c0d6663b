use Rattle.std.proofs.Common.{inl, inr, refl}
use Rattle.rpg_engine.proofs.sending.fault_after.Goals as goal

pub returns-in-Read : goal.returns-in-Read
returns-in-Read g c = (c.args.sent, rw c.in-Read.is (refl, λ file. refl))

-- memory ran out, and all was sent
pub returns-in-Ok : goal.returns-in-Ok
returns-in-Ok g c = (c.send_both.new.sent, rw c.in-NoMemory.is (inl (refl, rw (c.deref.ensures.value, c.deref-in-NoMemory.ensures.value) at c.in-Ok.ensures)))

-- or a writer failed
pub returns-in-Err : goal.returns-in-Err
returns-in-Err g c = (c.send_both.new.sent, rw c.in-NoMemory.is (inr (rw (c.deref.ensures.value, c.deref-in-NoMemory.ensures.value) at c.in-Err.ensures)))
