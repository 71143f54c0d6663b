use Rattle.std.proofs.Common.{ap, map}
use Rattle.rpg_compile_layouts.proofs.Followers.{types_first}
use Rattle.rpg_compile_layouts.proofs.Rows.{all_head, all_tail, all_with_one_more, one_more_row}
use Rattle.rpg_compile_layouts.proofs.types.types_of.Goals as goal
use Rattle.rpg_compile_layouts.specs.Parts.{type_following, types_from}
use Rattle.rpg_compile_layouts.specs.Within.{IsTypeWithin}
use Rattle.rpg_program.specs.Kept.{IsTypeRow}
use Rattle.rpg_program.specs.Object.{type_row}
use Rattle.rpg_program.specs.Naming.{renamed_type}
use Rattle.rpg_compile_program.specs.Table.{key_number}
use Rattle.rpg_compile_program.specs.Types.{types_on}

pub type_of-requires : goal.type_of-requires
type_of-requires c =
    let cards = c.args.cards.now in
    let following = c.in-Some.following.now in
    let here = c.in-Some-record_type.record_type.now in
    let own = c.own_or-name.result.now in
    let file = c.read_from-file.result in
    let first = types_first cards c.loop-card.name.now own file c.in-Some.card.now following c.loop-card.rest.now here c.in-Some.ensures.cases.0 c.in-Some-record_type.ensures c.own_or-name.ensures c.read_from-file.ensures in
    all_head IsTypeWithin (type_following file here following) (types_from cards own following) (types_from cards c.loop-card.name.now c.loop-card.rest.now) first c.loop-card.invariant.within

pub loop-card-preserved-in_ok-push : goal.loop-card-preserved-in_ok-push
loop-card-preserved-in_ok-push c =
    let cards = c.args.cards.now in
    let following = c.in-Some.following.now in
    let here = c.in-Some-record_type.record_type.now in
    let own = c.own_or-name.result.now in
    let file = c.read_from-file.result in
    let row = renamed_type (key_number c.args.table.now) in
    let rest = types_from cards c.loop-card.name.now c.loop-card.rest.now in
    let tail = types_from cards own following in
    let first = types_first cards c.loop-card.name.now own file c.in-Some.card.now following c.loop-card.rest.now here c.in-Some.ensures.cases.0 c.in-Some-record_type.ensures c.own_or-name.ensures c.read_from-file.ensures in
    record {
      so_far = one_more_row type_row c.loop-card.types.items c.push.new.self.items c.in_ok-type_of.field-0 (row (type_following file here following)) (map row rest) (map row tail) (map row (types_on cards)) c.in_ok-push.ensures.items c.in_ok-type_of.ensures.row (ap (map row) first) c.loop-card.invariant.so_far;
      rows = all_with_one_more type_row IsTypeRow c.loop-card.types.items c.push.new.self.items c.in_ok-type_of.field-0 c.in_ok-push.ensures.items c.loop-card.invariant.rows c.in_ok-type_of.ensures.kept;
      within = all_tail IsTypeWithin (type_following file here following) tail rest first c.loop-card.invariant.within;
    }
