-- W11: which results nothing reads.
use Rattle.std.specs.Prelude.{ℕ, List, [], ◌∷◌, ◌++◌, Bool, not, ◌&&◌, ◌==◌, Option, None, Some, if◌then◌else◌}
use Rattle.std.specs.List.{filter_map}
use Rattle.rpg_cards.specs.declared.spec_card.SpecCard.{SpecCard}
use Rattle.rpg_sheet_specs.specs.declared.column.ColumnFault.{ColumnFault}
use Rattle.rpg_warnings_lines.specs.Marks.{AreLeast, least, least_at, mark_of, marks_of}
use Rattle.rpg_warnings_lines.specs.Uses.{printed_on, read_on, result_on}
use Rattle.rpg_warnings_lines.specs.declared.marks.Mark.{Mark}
use Rattle.rpg_warnings_lines.specs.declared.unused.FirstResults.{FirstResults}
use Rattle.rpg_warnings_lines.specs.declared.warning.Warning.{Warning}
use Rattle.rpg_warnings_lines.specs.declared.warning.WarningKind.TheVariants as kind

module _ (cards : List SpecCard) where
  -- the names that lines print on these cards, with the cards
  abbrev pub printed_from : List SpecCard → List Mark
  printed_from [] = []
  printed_from (c ∷ cs) = marks_of c.number (printed_on cards c.spec) ++ printed_from cs

  -- the names that these cards read otherwise, with the cards
  abbrev pub read_from : List SpecCard → List Mark
  read_from [] = []
  read_from (c ∷ cs) = marks_of c.number (read_on cards c.spec) ++ read_from cs

  -- all names that cards print or read, with the cards
  abbrev pub all_read : List Mark
  all_read = printed_from cards ++ read_from cards

  -- the result fields of these cards, with the cards
  abbrev pub results_from : List SpecCard → List Mark
  results_from [] = []
  results_from (c ∷ cs) = mark_of c.number (result_on cards c.spec) ++ results_from cs

  -- the first card that reads a name; 65535 if none does
  abbrev pub first_read : ℕ → ℕ
  first_read place = least place all_read

  -- the first card with this result field
  abbrev pub first_set : ℕ → ℕ
  first_set place = least place (results_from cards)

  -- the first cards of all names
  pub record AreFirst (firsts : FirstResults) : Type 0 where
    pub read : AreLeast firsts.read.items all_read
    pub set : AreLeast firsts.set.items (results_from cards)

-- the columns of a result field
abbrev pub result_columns : ColumnFault
result_columns = record { column = 43; last = 48 }

-- the warning about the result field of a card
abbrev pub unused_at : ℕ → Warning
unused_at number = record { card = number; columns = result_columns; kind = kind.Unused }

-- the warning about a result field of a card: the first card that sets it, if no card reads it
abbrev pub unused_by : List SpecCard → Mark → Option Warning
unused_by cards m = if first_set cards m.place == m.value && first_read cards m.place == 65535 then Some (unused_at m.value) else None

-- the same, by the first cards of all names
abbrev pub unused_with : FirstResults → Mark → Option Warning
unused_with firsts m = if least_at m.place firsts.set.items == m.value && least_at m.place firsts.read.items == 65535 then Some (unused_at m.value) else None

-- a card that reads the name is noted
abbrev pub is_noted : List ℕ → Mark → Bool
is_noted read m = not (least_at m.place read == 65535)

-- the results that nothing reads
abbrev pub unused : List SpecCard → List Warning
unused cards = filter_map (unused_by cards) (results_from cards cards)
