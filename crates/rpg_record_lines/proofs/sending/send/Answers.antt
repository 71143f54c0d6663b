use Rattle.std.proofs.Common.{◌≡◌, ◌≤◌, length, drop, arith, length-drop}
use Rattle.std.proofs.Math.Seq.{take-add}
use Rattle.std.proofs.KnownBytes.{Appends-trans}
use Rattle.rpg_record_lines.proofs.sending.send.Goals as goal

pub loop-sent-preserved : goal.loop-sent-preserved
loop-sent-preserved g c =
    let rest : c.split_at.result.1.now ≡ drop c.loop-sent.sent c.args.bytes.now = c.split_at.ensures.back in
    let few : c.in-Ok.n ≤ length (drop c.loop-sent.sent c.args.bytes.now) = rw rest at c.in-Ok.ensures.within in
    record {
      within = omega (arith, length-drop c.loop-sent.sent c.args.bytes.now);
      out = rw (take-add c.loop-sent.sent c.in-Ok.n c.args.bytes.now) (Appends-trans _ _ _ _ _ c.loop-sent.invariant.out (rw rest at c.in-Ok.ensures.bytes));
    }
