use Rattle.std.proofs.Common.{ap, ◌∙◌}
use Rattle.rpg_card_index.specs.Index.{first_file, is_file_named}
use Rattle.rpg_card_index.proofs.index.IndexedCards.file_place.Goals as goal

pub returns : goal.returns
returns c = c.named.ensures ∙ c.self.invariant.files.named c.args.name.now ∙ ap (first_file (is_file_named c.args.name.now)) c.self.view_is
