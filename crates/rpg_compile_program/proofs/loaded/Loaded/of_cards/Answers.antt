use Rattle.std.proofs.Common.{sym}
use Rattle.rpg_compile_program.proofs.LoadedLemmas.{sizes_at}
use Rattle.rpg_compile_program.proofs.loaded.Loaded.of_cards.Goals as goal

pub take_deck-requires : goal.take_deck-requires
take_deck-requires c =
    sizes_at c.args.cards.now c.loop-card.card-index c.card-item.result c.in-Some.extension.now c.requires.sizes c.loop-card-test.true c.card-item.is (sym c.in-Some.ensures)
