use Rattle.rpg_files.proofs.Filling.{slice_range-add}
use Rattle.rpg_files.proofs.buffer.Buffer.consume.Goals as goal

pub returns-clause-bytes : goal.returns-clause-bytes
returns-clause-bytes c = slice_range-add c.args.self.now.buf.items c.args.self.now.start c.args.self.now.end c.args.n c.requires
