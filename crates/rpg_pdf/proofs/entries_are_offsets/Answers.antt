use Rattle.rpg_pdf.proofs.ObjectLemmas.{entries}
use Rattle.rpg_pdf.proofs.entries_are_offsets.Goals as goal

pub returns : goal.returns
returns c = entries
