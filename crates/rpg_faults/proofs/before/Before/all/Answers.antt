use Rattle.rpg_faults.proofs.before.Before.all.Goals as goal

pub returns : goal.returns
returns c =
    let cards = c.args.source.now.cards.now in
    record { sheets = c.none.ensures cards; limits = c.before_all.ensures; places = c.nothing.ensures cards; flow = c.nothing-2.ensures cards; group = c.none-2.ensures cards; decks = c.requires }
