use Rattle.std.proofs.Common.{◌≡◌, ◌++◌, drop, length, take}
use Rattle.std.specs.List.{filter_map}
use Rattle.rpg_cards.specs.Names.{definitions}
use Rattle.rpg_cli_warnings.specs.Digits.{shorter_on}
use Rattle.rpg_cli_warnings.proofs.digits.put_shorter.Given as goal

abbrev pub invariant-loop-card : goal.invariant-loop-card
invariant-loop-card l = record {
  place : l.place ≡ length (definitions (take l.card-index l.card-items));
  so_far : l.warnings.items ++ filter_map (shorter_on l.source) (drop l.card-index l.card-items) ≡ l.initial.warnings.items ++ filter_map (shorter_on l.source) l.source;
}
