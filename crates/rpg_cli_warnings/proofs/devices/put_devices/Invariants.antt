use Rattle.std.proofs.Common.{◌≡◌, ◌++◌, drop}
use Rattle.std.specs.List.{filter_map}
use Rattle.std.specs.Str.Lines.{lines}
use Rattle.rpg_cli_warnings.specs.Devices.{device_on}
use Rattle.rpg_cli_warnings.proofs.devices.put_devices.Given as goal

abbrev pub invariant-loop-card : goal.invariant-loop-card
invariant-loop-card l =
    l.warnings.items ++ filter_map (device_on (lines l.text)) (drop l.card-index l.cards)
    ≡ l.initial.warnings.items ++ filter_map (device_on (lines l.text)) l.cards
