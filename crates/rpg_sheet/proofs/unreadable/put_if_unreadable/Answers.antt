use Rattle.std.proofs.Common.{sym, append-nil}
use Rattle.rpg_sheet.proofs.UnreadableLemmas.{at_bad, at_valid}
use Rattle.rpg_sheet.proofs.unreadable.put_if_unreadable.Goals as goal

pub returns-in-Ok : goal.returns-in-Ok
returns-in-Ok c lines seen =
    let earlier = c.args.earlier in
    rw (at_valid lines earlier.count earlier.latest earlier.data_begun c.args.line.now seen c.in-Ok.ensures.valid) (sym (append-nil c.args.found.now.items))

pub returns-in_ok-push-in-Err : goal.returns-in_ok-push-in-Err
returns-in_ok-push-in-Err c lines seen =
    let earlier = c.args.earlier in
    let columns = rw c.requires.columns at c.in-Err.ensures.columns in
    rw (at_bad lines earlier.count earlier.latest earlier.data_begun c.args.line.now c.in-Err.field-0.code seen c.in-Err.ensures.code, sym columns) c.in_ok-push-in-Err.ensures.items
