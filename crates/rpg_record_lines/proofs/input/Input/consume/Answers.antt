use Rattle.rpg_record_lines.proofs.InputLemmas.{given_bytes}
use Rattle.rpg_record_lines.proofs.input.Input.consume.Goals as goal

pub returns : goal.returns
returns g c =
    let w = c.args.self.now in
    given_bytes (g.R.Read.remaining w.reader) w.buf.items w.start w.end c.args.n w.given c.saturating_add-self.result c.requires c.saturating_add-self.ensures
