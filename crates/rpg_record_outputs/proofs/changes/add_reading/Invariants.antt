use Rattle.std.proofs.Common.{◌≡◌, ◌++◌, drop, map}
use Rattle.rpg_record_decks.specs.Fitted.{digits_change}
use Rattle.rpg_record_outputs.proofs.changes.add_reading.Given as goal

abbrev pub invariant-loop-digits : goal.invariant-loop-digits
invariant-loop-digits l = l.changes.items ++ map digits_change (drop l.digits-index l.all) ≡ l.initial.changes.items ++ map digits_change l.all
