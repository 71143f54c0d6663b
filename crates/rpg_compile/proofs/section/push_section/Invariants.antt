use Rattle.std.proofs.Common.{◌≡◌, ◌+◌, ◌++◌, length}
use Rattle.rpg_compile_program.specs.Code.{code_from, sizes}
use Rattle.rpg_compile.proofs.section.push_section.Given as goal
use Rattle.rpg_compile.specs.Numbers.{number_by}
use Rattle.rpg_compile.specs.Walk.{section_in}
use Rattle.rpg_compile_program.specs.Table.{key_number}

abbrev pub invariant-loop-group : goal.invariant-loop-group
invariant-loop-group l = record {
  places : l.place + sizes (section_in l.part l.rest) ≡ l.first + sizes (section_in l.part l.cards);
  so_far : l.code ++ code_from (key_number l.section.table.now) (number_by l.section.labels.now) (number_by l.section.subroutines.now) l.section.own l.place (section_in l.part l.rest)
      ≡ l.initial.code ++ code_from (key_number l.section.table.now) (number_by l.section.labels.now) (number_by l.section.subroutines.now) l.section.own l.first (section_in l.part l.cards);
}

abbrev pub decreases-loop-group : goal.decreases-loop-group
decreases-loop-group l = length l.rest
