use Rattle.rpg_compile_layouts.proofs.LineFollowers.{rows_first}
use Rattle.rpg_compile_layouts.proofs.Rows.{all_head, all_tail, all_with_one_more, one_more_row}
use Rattle.rpg_compile_layouts.proofs.lines.lines_of.Goals as goal
use Rattle.rpg_compile_layouts.specs.Rows.{row_after, rows_from, rows_of}
use Rattle.rpg_compile_layouts.specs.Within.{IsLineWithin}
use Rattle.rpg_program.specs.Kept.{IsLineRow}
use Rattle.rpg_program.specs.Object.{line_row}

pub line_of-requires : goal.line_of-requires
line_of-requires c =
    let table = c.args.table.now in
    let cards = c.args.cards.now in
    let following = c.in-Some.following.now in
    let here = c.in-Some-line.heading.now in
    let own = c.own_or-name.result.now in
    let file = c.put_on-file.result in
    let first = rows_first table cards c.loop-card.name.now own file c.in-Some.card.now following c.loop-card.rest.now here c.in-Some.ensures.cases.0 c.in-Some-line.ensures c.own_or-name.ensures c.put_on-file.ensures in
    all_head IsLineWithin (row_after table file here following) (rows_from table cards own following) (rows_from table cards c.loop-card.name.now c.loop-card.rest.now) first c.loop-card.invariant.within

pub loop-card-preserved-in_ok-push : goal.loop-card-preserved-in_ok-push
loop-card-preserved-in_ok-push c =
    let table = c.args.table.now in
    let cards = c.args.cards.now in
    let following = c.in-Some.following.now in
    let here = c.in-Some-line.heading.now in
    let own = c.own_or-name.result.now in
    let file = c.put_on-file.result in
    let rest = rows_from table cards c.loop-card.name.now c.loop-card.rest.now in
    let row = row_after table file here following in
    let tail = rows_from table cards own following in
    let made = c.in_ok-line_of.field-0 in
    let first = rows_first table cards c.loop-card.name.now own file c.in-Some.card.now following c.loop-card.rest.now here c.in-Some.ensures.cases.0 c.in-Some-line.ensures c.own_or-name.ensures c.put_on-file.ensures in
    record {
      so_far = one_more_row line_row c.loop-card.lines.items c.push.new.self.items made row rest tail (rows_of table cards) c.in_ok-push.ensures.items c.in_ok-line_of.ensures.row first c.loop-card.invariant.so_far;
      rows = all_with_one_more line_row IsLineRow c.loop-card.lines.items c.push.new.self.items made c.in_ok-push.ensures.items c.loop-card.invariant.rows c.in_ok-line_of.ensures.kept;
      within = all_tail IsLineWithin row tail rest first c.loop-card.invariant.within;
    }
