use Rattle.std.proofs.Common.{◌<◌, List, map, length, sym, ap, ◌∙◌, subst, arith}
use Rattle.std.proofs.lemmas.List.{map-append}
use Rattle.std.proofs.lemmas.List.Elements.{All-push}
use Rattle.std.specs.Prelude.{All}
use Rattle.rpg_compile_program.specs.Code.{calculations_code}
use Rattle.rpg_compile.proofs.Written.{no_row_left, one_row_more}
use Rattle.rpg_compile.proofs.rows.Writer.subroutines.Goals as goal
use Rattle.rpg_compile.specs.Called.{level_at}
use Rattle.rpg_compile.specs.Marked.{IsMarkedRow}
use Rattle.rpg_compile.specs.Numbers.{body_sizes, number_by}
use Rattle.rpg_compile.specs.Walk.{section_in, subroutines_in}
use Rattle.rpg_compile.specs.declared.part.Part.TheVariants.{Body}
use Rattle.rpg_program.specs.Object.{SubroutineRow, subroutine_row}
use Rattle.rpg_compile_program.specs.Table.{key_number}

pub loop-following-preserved : goal.loop-following-preserved
loop-following-preserved c =
    let self = c.args.self.now in
    let i = c.loop-following.invariant in
    let split = c.in-Some.ensures.0 in
    let following = section_in Body c.in-Some.following.now in
    let one = ap length split in
    let size = ap body_sizes split in
    let e = c.in_ok-instructions.ensures in
    let count = i.count in
    let places = i.places in
    let ends = e.end in
    let code = e.code ∙ ap (λ t. calculations_code (key_number t.now) (number_by c.loop-following.self.subroutines) c.loop-following.own c.loop-following.place following) i.table
    ∙ ap (λ s. calculations_code (key_number self.table.now) (number_by s) c.loop-following.own c.loop-following.place following) i.subroutines in
    let pushed = c.in_ok-push.ensures.items in
    let low : level_at c.args.levels.now c.loop-following.own < 65536 = omega (arith, c.type_inv.levels c.loop-following.own) in
    record {
      count = omega (arith, one, count);
      places = omega (arith, size, places, ends);
      table = e.table ∙ i.table;
      subroutines = e.subroutines ∙ i.subroutines;
      so_far = one_row_more (key_number self.table.now) (number_by self.subroutines) (level_at c.args.levels.now) c.loop-following.rows.items c.push.new.self.items _ _ c.loop-following.own c.loop-following.place c.in_ok-instructions.end _ _ _ split pushed
          (ap (λ is. record { level = level_at c.args.levels.now c.loop-following.own; instructions = is }) code) ends i.so_far;
      kept = subst (λ (rows : List SubroutineRow). All IsMarkedRow rows) (sym (ap (map subroutine_row) pushed ∙ map-append subroutine_row c.loop-following.rows.items _))
          (All-push IsMarkedRow (map subroutine_row c.loop-following.rows.items) _ i.kept (record { level = low; instructions = e.kept }));
    }

pub returns-clause-rows : goal.returns-clause-rows
returns-clause-rows c =
    let self = c.args.self.now in
    no_row_left (key_number self.table.now) (number_by self.subroutines) (level_at c.args.levels.now) c.loop-following.rows.items _ c.loop-following.own c.loop-following.place (subroutines_in c.loop-following.rest.now) c.in_default.ensures c.loop-following.invariant.so_far
