use Rattle.std.proofs.Common.{◌≡◌, ◌++◌, ap, ◌∙◌}
use Rattle.rpg_compile_program.specs.Code.{code_from, label_place, calculations_code}
use Rattle.rpg_compile.proofs.rows.Writer.section.Goals as goal
use Rattle.rpg_compile.specs.Numbers.{number_by}
use Rattle.rpg_compile.specs.Walk.{section_in}
use Rattle.rpg_compile_program.specs.Table.{key_number}

pub returns-clause-code : goal.returns-clause-code
unfolding calculations_code
returns-clause-code c =
    let gs = section_in c.args.part c.args.cards.now in
    let number = key_number c.args.self.now.table.now in
    let called = number_by c.args.self.now.subroutines in
    let places : number_by c.note_section.new.self ≡ (λ l. label_place l gs c.args.first) = λ i l. c.in_ok-end.ensures.places l i in
    c.into_vec.ensures.value ∙ c.in_ok-push_section.ensures
    ∙ ap (λ is. is ++ code_from number (number_by c.note_section.new.self) called c.args.own c.args.first gs) c.in_ok-code.ensures
    ∙ ap (λ place_of. code_from number place_of called c.args.own c.args.first gs) places
