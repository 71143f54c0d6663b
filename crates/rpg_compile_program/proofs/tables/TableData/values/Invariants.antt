use Rattle.std.proofs.Common.{◌≡◌, ◌++◌, drop, map}
use Rattle.rpg_cards.specs.Groups.{data_role, followers}
use Rattle.rpg_program.specs.Values.{held}
use Rattle.rpg_compile_program.proofs.TableLemmas.{values_in}
use Rattle.rpg_compile_program.specs.Tables.{values_on}
use Rattle.rpg_compile_program.proofs.tables.TableData.values.Given as goal

abbrev pub invariant-loop-card : goal.invariant-loop-card
invariant-loop-card l = map held l.values.items ++ values_in l.self l.left (followers data_role (drop l.card-index l.self.deck.now)) ≡ values_on l.self
