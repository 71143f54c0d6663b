use Rattle.std.proofs.Common.{ap, length, take, ◌∙◌}
use Rattle.std.proofs.Math.Seq.{take-length}
use Rattle.rpg_cards.specs.Files.{file_for}
use Rattle.rpg_card_index.proofs.index.IndexedCards.file_for.Goals as goal

pub returns : goal.returns
returns c = c.file_for_before.ensures ∙ ap (file_for c.args.file_use) (ap (λ cards. take (length cards) c.args.self.now) c.self.view_is ∙ take-length c.args.self.now)
