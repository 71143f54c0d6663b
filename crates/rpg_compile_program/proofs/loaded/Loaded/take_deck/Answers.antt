use Rattle.std.proofs.Common.{ℕ, List, ap, map}
use Rattle.rpg_cards.specs.Groups.{Group}
use Rattle.rpg_compile_program.proofs.LoadedLemmas.{takes_deck}
use Rattle.rpg_compile_program.proofs.loaded.Loaded.take_deck.Goals as goal

pub returns : goal.returns
returns c =
    takes_deck c.args.extension.now c.in-Some.per_card c.in-Some-after_next.deck.now c.args.decks.now c.args.self.now c.add_tables.new.self
    c.in-Some.is (ap (map (λ (g : Group (Unit {0}) (List ℕ)). g.followers)) c.in-Some-after_next.ensures.groups) c.in_ok-add_tables.ensures
