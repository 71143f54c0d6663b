use Rattle.rpg_compile_program.proofs.LoadedLemmas.{one_table, two_tables}
use Rattle.rpg_compile_program.proofs.loaded.Loaded.add_tables.Goals as goal

pub returns-in_ok-add-2 : goal.returns-in_ok-add-2
returns-in_ok-add-2 c =
    two_tables c.args.extension.now c.args.per_card c.args.deck.now c.in-Some.table c.data_columns-width.result c.args.self.now c.add.new.self c.add-in-Some.new.self
    c.data_columns-width.ensures c.in-Some.is c.in_ok-add.ensures c.in_ok-add-2.ensures

pub returns-in_default : goal.returns-in_default
returns-in_default c =
    one_table c.args.extension.now c.args.per_card c.args.deck.now c.data_columns-width.result c.args.self.now c.add.new.self c.data_columns-width.ensures c.in_default.is c.in_ok-add.ensures
