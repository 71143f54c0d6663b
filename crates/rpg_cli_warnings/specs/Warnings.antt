-- What a source without a fault is warned of.
use Rattle.std.specs.Prelude.{ℕ, List, ◌++◌, Bool, not, filter}
use Rattle.std.specs.List.{filter_map}
use Rattle.rpg_cards.specs.declared.spec_card.SpecCard.{SpecCard}
use Rattle.rpg_cli_warnings.specs.Devices.{device_on}
use Rattle.rpg_cli_warnings.specs.Digits.{shorter_on}
use Rattle.rpg_cli_warnings.specs.Files.{file_warning}
use Rattle.rpg_cli_warnings.specs.Halts.{halt_on}
use Rattle.rpg_cli_warnings.specs.Indicators.{warnings_up_to}
use Rattle.rpg_warnings_lines.specs.declared.warning.Warning.{Warning}
use Rattle.rpg_warnings_lines.specs.Kinds.{code}
use Rattle.rpg_warnings_lines.specs.LineWarnings.{line_warnings}
use Rattle.rpg_cli_values.specs.Codes.{has}
use Rattle.rpg_cli_values.specs.declared.codes.WarningCodes.{WarningCodes}

-- of all 129 indicators, of lines and results, of devices, of files, of results that are too short, of halts; the first argument is the lines of the source
abbrev pub warnings_of : List (List ℕ) → List SpecCard → List Warning
warnings_of source cards =
    warnings_up_to 129 cards ++ line_warnings cards ++ filter_map (device_on source) cards ++ filter_map (file_warning cards) cards
    ++ filter_map (shorter_on cards) cards ++ filter_map halt_on cards

-- a warning whose code isn't allowed
unfoldable pub is_wanted : WarningCodes → Warning → Bool
is_wanted allowed w = not (has allowed (code w.kind))

-- those whose codes aren't allowed
abbrev pub wanted_of : WarningCodes → List (List ℕ) → List SpecCard → List Warning
wanted_of allowed source cards = filter (is_wanted allowed) (warnings_of source cards)
