use Rattle.std.proofs.Common.{ap, ◌∙◌}
use Rattle.rpg_card_index.proofs.FileLemmas.{found_before}
use Rattle.rpg_card_index.specs.Index.{first_file, is_file_named}
use Rattle.rpg_card_index.proofs.index.IndexedCards.file_named_before.Goals as goal

pub returns : goal.returns
returns c =
    let place = c.named.ensures ∙ c.self.invariant.files.named c.args.name.now ∙ ap (first_file (is_file_named c.args.name.now)) c.self.view_is in
    c.file_at.ensures ∙ found_before (is_file_named c.args.name.now) c.args.self.now c.args.count c.named.result place
