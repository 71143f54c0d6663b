use Rattle.std.proofs.Common.{◌≡◌, Some, ap, drop, map, subst, sym, ◌+◌}
use Rattle.std.proofs.lemmas.List.Elements.{All-push}
use Rattle.std.specs.Prelude.{All}
use Rattle.rpg_cards.specs.Cards.{input_on}
use Rattle.rpg_compile_layouts.proofs.Followers.{next_field}
use Rattle.rpg_compile_layouts.proofs.Rows.{one_more}
use Rattle.rpg_compile_layouts.proofs.types.inputs_of.Goals as goal
use Rattle.rpg_compile_layouts.specs.Parts.{inputs_after}
use Rattle.rpg_compile_program.specs.Table.{key_number}
use Rattle.rpg_compile_program.specs.Types.{input_row}
use Rattle.rpg_program.specs.Kept.{IsInputRow}
use Rattle.rpg_program.specs.Naming.{renamed_input}
use Rattle.rpg_sheet_specs.specs.declared.input.InputSpec.TheVariants as input

pub loop-card-preserved : goal.loop-card-preserved
loop-card-preserved c =
    let row = renamed_input (key_number c.args.table.now) in
    let cards = c.args.following.now in
    let i = c.loop-card.card-index in
    let card = c.card-item.result in
    let field = c.in-Some-Field.field in
    let read = c.in-Some-Field.ensures in
    let same = c.in-Some-Field.field-0-is in
    let here = c.in-Some-Field.field-is in
    let on : Some (input.Field field) ≡ input_on card.spec = cc in
    let first = ap (λ fs. map row (map input_row fs)) (next_field cards i card field c.loop-card-test.true c.card-item.is on) in
    record {
      so_far = one_more c.loop-card.inputs.items c.push.new.self.items c.input_of.result (row (input_row field)) (map row (inputs_after (drop i cards))) (map row (inputs_after (drop (i + 1) cards))) (map row (inputs_after cards)) c.in_ok-push.ensures.items c.input_of.ensures.value first c.loop-card.invariant.so_far;
      rows = subst (λ rows. All IsInputRow rows) (sym c.in_ok-push.ensures.items) (All-push IsInputRow c.loop-card.inputs.items c.input_of.result c.loop-card.invariant.rows c.input_of.ensures.kept);
    }
