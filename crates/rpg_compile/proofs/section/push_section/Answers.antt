use Rattle.std.proofs.Common.{◌+◌, ◌++◌, ap, ◌∙◌, arith}
use Rattle.rpg_cards.specs.Calculations.{calculation_of}
use Rattle.rpg_compile_program.specs.Code.{code_from, sizes}
use Rattle.rpg_compile.proofs.Steps.{none_left, one_more}
use Rattle.rpg_compile.proofs.section.push_section.Goals as goal
use Rattle.rpg_compile.specs.Numbers.{number_by}
use Rattle.rpg_compile.specs.Walk.{section_in}
use Rattle.rpg_compile_program.specs.Table.{key_number}

pub loop-group-preserved : goal.loop-group-preserved
loop-group-preserved c =
    let s = c.args.section.now in
    let g = calculation_of c.in-Some.group in
    let rest = section_in c.args.part c.loop-group.rest.now in
    let following = section_in c.args.part c.in-Some.following.now in
    let split = c.in-Some.ensures.0 in
    let counts = ap sizes split in
    let made = c.size-place.ensures in
    let places = c.loop-group.invariant.places in
    let left = code_from (key_number s.table.now) (number_by s.labels.now) (number_by s.subroutines.now) s.own in
    let done = one_more (key_number s.table.now) (number_by s.labels.now) (number_by s.subroutines.now) s.own c.loop-group.code c.push_group.new.code _ c.loop-group.place g rest following split c.in_ok-push_group.ensures c.loop-group.invariant.so_far in
    record {
      places = omega arith;
      so_far = ap (λ n. c.push_group.new.code ++ left (c.loop-group.place + n) following) made ∙ done;
    }

pub returns : goal.returns
returns c =
    let s = c.args.section.now in
    none_left (key_number s.table.now) (number_by s.labels.now) (number_by s.subroutines.now) s.own c.loop-group.code _ c.loop-group.place (section_in c.args.part c.loop-group.rest.now) c.in_default.ensures c.loop-group.invariant.so_far
