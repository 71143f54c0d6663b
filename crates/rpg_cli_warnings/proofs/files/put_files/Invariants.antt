use Rattle.std.proofs.Common.{◌≡◌, ◌++◌, drop}
use Rattle.std.specs.List.{filter_map}
use Rattle.rpg_cli_warnings.specs.Files.{file_warning}
use Rattle.rpg_cli_warnings.proofs.files.put_files.Given as goal

abbrev pub invariant-loop-card : goal.invariant-loop-card
invariant-loop-card l =
    l.warnings.items ++ filter_map (file_warning l.cards) (drop l.card-index l.cards)
    ≡ l.initial.warnings.items ++ filter_map (file_warning l.cards) l.cards
