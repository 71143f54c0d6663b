use Rattle.std.proofs.Common.{◌≡◌, drop, find}
use Rattle.rpg_cli_warnings.specs.Files as files
use Rattle.rpg_cli_warnings.proofs.files.other_card.Given as goal

abbrev pub invariant-loop-card : goal.invariant-loop-card
invariant-loop-card l = find (files.is_other l.file) (drop l.card-index l.cards) ≡ find (files.is_other l.file) l.cards
