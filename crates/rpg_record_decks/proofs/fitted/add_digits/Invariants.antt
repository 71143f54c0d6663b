use Rattle.std.proofs.Common.{◌≡◌, ◌++◌, drop, map}
use Rattle.rpg_records.specs.Seen.{number_seen}
use Rattle.rpg_record_decks.specs.Fitted.{digit_columns_after}
use Rattle.rpg_record_decks.proofs.fitted.add_digits.Given as goal

abbrev pub invariant-loop-field : goal.invariant-loop-field
invariant-loop-field l = l.all.items ++ digit_columns_after l.end (map number_seen (drop l.field-index l.numbers)) ≡ l.initial.all.items ++ digit_columns_after l.length (map number_seen l.numbers)
