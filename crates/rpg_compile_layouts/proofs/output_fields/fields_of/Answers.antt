use Rattle.std.proofs.Common.{◌≡◌, Some, drop, subst, sym, ◌+◌}
use Rattle.std.proofs.lemmas.List.Elements.{All-push}
use Rattle.std.specs.Prelude.{All}
use Rattle.rpg_cards.specs.Cards.{output_on}
use Rattle.rpg_compile_layouts.proofs.LineFollowers.{next_field}
use Rattle.rpg_compile_layouts.proofs.Rows.{all_head, all_tail, one_more}
use Rattle.rpg_compile_layouts.proofs.output_fields.fields_of.Goals as goal
use Rattle.rpg_compile_layouts.specs.Rows.{field_row, output_rows_after}
use Rattle.rpg_compile_layouts.specs.Within.{HasIndexRow}
use Rattle.rpg_program.specs.Kept.{IsLineFieldRow}
use Rattle.rpg_sheet_specs.specs.declared.output.OutputSpec.TheVariants as output

pub field_of-requires : goal.field_of-requires
field_of-requires c =
    let table = c.args.table.now in
    let cards = c.args.following.now in
    let i = c.loop-card.card-index in
    let card = c.card-item.result in
    let field = c.in-Some-Field.field in
    let read = c.in-Some-Field.ensures in
    let same = c.in-Some-Field.field-0-is in
    let here = c.in-Some-Field.field-is in
    let on : Some (output.Field field) ≡ output_on card.spec = cc in
    let first = next_field table cards i card field c.loop-card-test.true c.card-item.is on in
    all_head HasIndexRow (field_row table field) (output_rows_after table (drop (i + 1) cards)) (output_rows_after table (drop i cards)) first c.loop-card.invariant.within

pub loop-card-preserved : goal.loop-card-preserved
loop-card-preserved c =
    let table = c.args.table.now in
    let cards = c.args.following.now in
    let i = c.loop-card.card-index in
    let card = c.card-item.result in
    let field = c.in-Some-Field.field in
    let read = c.in-Some-Field.ensures in
    let same = c.in-Some-Field.field-0-is in
    let here = c.in-Some-Field.field-is in
    let on : Some (output.Field field) ≡ output_on card.spec = cc in
    let first = next_field table cards i card field c.loop-card-test.true c.card-item.is on in
    record {
      so_far = one_more c.loop-card.fields.items c.push.new.self.items c.field_of.result (field_row table field) (output_rows_after table (drop i cards)) (output_rows_after table (drop (i + 1) cards)) (output_rows_after table cards) c.in_ok-push.ensures.items c.field_of.ensures.value first c.loop-card.invariant.so_far;
      rows = subst (λ rows. All IsLineFieldRow rows) (sym c.in_ok-push.ensures.items) (All-push IsLineFieldRow c.loop-card.fields.items c.field_of.result c.loop-card.invariant.rows c.field_of.ensures.kept);
      within = all_tail HasIndexRow (field_row table field) (output_rows_after table (drop (i + 1) cards)) (output_rows_after table (drop i cards)) first c.loop-card.invariant.within;
    }
