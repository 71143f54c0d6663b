use Rattle.std.proofs.Common.{◌≡◌, drop}
use Rattle.rpg_cards.specs.Files.{form_named}
use Rattle.rpg_cards.proofs.files.form_named.Given as goal

abbrev pub invariant-loop-card : goal.invariant-loop-card
invariant-loop-card l = form_named l.name (drop l.card-index l.cards) ≡ form_named l.name l.cards
