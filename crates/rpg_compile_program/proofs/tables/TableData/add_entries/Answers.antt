use Rattle.std.proofs.Common.{[], ◌∷◌, ◌∙◌, ap, map}
use Rattle.std.proofs.lemmas.List.{map-append}
use Rattle.rpg_program.specs.Values.{held}
use Rattle.rpg_compile_program.proofs.TableLemmas.{values_on_card-more}
use Rattle.rpg_compile_program.specs.Data.{entry_value}
use Rattle.rpg_compile_program.proofs.tables.TableData.add_entries.Goals as goal

pub loop-i-preserved : goal.loop-i-preserved
loop-i-preserved c =
    let value = c.in_ok-value_of.field-0 in
    values_on_card-more c.args.self c.args.card.now c.loop-i.i (held value) (map held c.loop-i.values.items) (map held c.push.new.self.items) (map held c.args.values.now.items)
    (ap (map held) c.in_ok-push.ensures.items ∙ map-append held c.loop-i.values.items (value ∷ []))
    (c.in_ok-value_of.ensures ∙ ap (entry_value c.args.self.table.now) c.entry.ensures.value) c.loop-i.invariant
