use Rattle.std.proofs.Common.{◌++◌, drop}
use Rattle.rpg_compile_program.specs.Loaded.{HasSameData}
use Rattle.rpg_compile_program.specs.Data.{all_loaded, decks, extensions, loaded}
use Rattle.rpg_compile_program.proofs.loaded.Loaded.of_cards.Given as goal

abbrev pub invariant-loop-card : goal.invariant-loop-card
invariant-loop-card l = HasSameData (loaded l.cards) (l.loaded ++ all_loaded (extensions (drop l.card-index l.cards)) (decks l.decks))
