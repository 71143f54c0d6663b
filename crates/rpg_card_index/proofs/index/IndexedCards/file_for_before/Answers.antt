use Rattle.std.proofs.Common.{ap, ◌∙◌}
use Rattle.rpg_card_index.proofs.FileLemmas.{found_before}
use Rattle.rpg_card_index.specs.Index.{first_file, is_for}
use Rattle.rpg_card_index.proofs.index.IndexedCards.file_for_before.Goals as goal

pub returns : goal.returns
returns c =
    let place = c.used.ensures ∙ c.self.invariant.files.used c.args.file_use ∙ ap (first_file (is_for c.args.file_use)) c.self.view_is in
    c.file_at.ensures ∙ found_before (is_for c.args.file_use) c.args.self.now c.args.count c.used.result place
