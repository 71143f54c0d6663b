-- What lines and results are warned of.
use Rattle.std.specs.Prelude.{List, [], ◌∷◌, ◌++◌, Option}
use Rattle.std.specs.Option.{option_or, option_to_list}
use Rattle.rpg_cards.specs.declared.spec_card.SpecCard.{SpecCard}
use Rattle.rpg_warnings_lines.specs.Overlaps.{overlaps_from}
use Rattle.rpg_warnings_lines.specs.Pages.{page_on}
use Rattle.rpg_warnings_lines.specs.Printer.{overflow_on}
use Rattle.rpg_warnings_lines.specs.Sums.{unreset}
use Rattle.rpg_warnings_lines.specs.Unheld.{unheld_on}
use Rattle.rpg_warnings_lines.specs.Unused.{unused}
use Rattle.rpg_warnings_lines.specs.declared.warning.Warning.{Warning}

-- a card's page number, a line that nothing keeps back, or a printer without an overflow indicator
abbrev pub card_warning : List SpecCard → SpecCard → List SpecCard → Option Warning
card_warning cards c after = option_or (option_or (page_on c) (unheld_on c after)) (overflow_on cards c)

-- those of the last cards
abbrev pub card_warnings : List SpecCard → List SpecCard → List Warning
card_warnings cards [] = []
card_warnings cards (c ∷ cs) = option_to_list (card_warning cards c cs) ++ card_warnings cards cs

-- results that nothing reads, fields over each other, the cards by themselves, totals that aren't set back
abbrev pub line_warnings : List SpecCard → List Warning
line_warnings cards = unused cards ++ overlaps_from cards [] cards ++ card_warnings cards cards ++ unreset cards
