use Rattle.std.proofs.Common.{◌≡◌, ℕ, take}
use Rattle.std.specs.List.{list_any}
use Rattle.rpg_cli_warnings.specs.Indicators.{shows, tests_indicator}
use Rattle.rpg_cli_warnings.specs.Marks.{is_marked}
use Rattle.rpg_cli_warnings.proofs.marks.marks_by.Given as goal

abbrev pub invariant-loop-card : goal.invariant-loop-card
invariant-loop-card l = record {
  tested : (n : ℕ) → is_marked n l.tested ≡ list_any (tests_indicator n) (take l.card-index l.cards);
  shown : (n : ℕ) → is_marked n l.shown ≡ list_any (shows n) (take l.card-index l.cards);
}
