-- The values of a table, on the cards of its deck.
use Rattle.std.specs.List.{range_with_len}
use Rattle.std.specs.Prelude.{ℕ, List, map}
use Rattle.rpg_cards.specs.Groups.{data_role, followers}
use Rattle.rpg_program.specs.Values.{Value}
use Rattle.rpg_compile_program.specs.declared.tables.TableData.{TableData}
use Rattle.rpg_faults_data.specs.Data.{data_entries, entry_on}
use Rattle.rpg_compile_program.specs.Data.{entry_value}

-- the values of a table's data
abbrev pub values_on : TableData → List Value
values_on d = map (entry_value d.table.now) (data_entries d.entries d.per_card d.width d.from d.table.now.length (followers data_role d.deck.now))

-- those of the first n entries of a card
abbrev pub values_on_card : TableData → List ℕ → ℕ → List Value
values_on_card d card n = map (λ i. entry_value d.table.now (entry_on d.width d.from d.table.now.length card i)) (range_with_len 0 n)
