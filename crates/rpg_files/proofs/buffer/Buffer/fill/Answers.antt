use Rattle.std.proofs.Common.{◌≡◌, ◌<◌, length, rules, take, drop}
use Rattle.std.proofs.lemmas.List.{with_items_is}
use Rattle.rpg_files.proofs.Filling.{filled}
use Rattle.rpg_files.proofs.buffer.Buffer.fill.Goals as goal

pub returns-clause-bytes : goal.returns-clause-bytes
returns-clause-bytes g c =
    let w = c.args.self.now in
    let ys = c.refill.new.buf in
    let same_len : length ys ≡ w.buf.len = search rules in
    let moved : take c.len-len.result ys ≡ take c.len-len.result (drop w.start w.buf.items) = search rules in
    let room : c.len-len.result < length ys = search rules in
    filled _ _ w.buf.items ys _ w.start w.end c.len-len.result c.in_ok-n.n (with_items_is w.buf ys same_len) c.len-len.ensures w.ordered (search rules) moved room c.in_ok-n.ensures.within c.in_ok-n.ensures.bytes
