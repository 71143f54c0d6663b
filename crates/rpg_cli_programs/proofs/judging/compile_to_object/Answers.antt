use Rattle.std.proofs.Common.{rules, ap, ◌∙◌}
use Rattle.rpg_cli_programs.proofs.Spelled.{faultless}
use Rattle.rpg_object.specs.Program.{reading}
use Rattle.rpg_program.specs.Kept.{IsProgram}
use Rattle.rpg_cli_programs.proofs.judging.compile_to_object.Goals as goal

pub returns-clause-ok : goal.returns-clause-ok
returns-clause-ok c =
    let p = c.in_ok-source.field-0.program in
    let kept : IsProgram p = search rules in
    (p, c.in_ok-source.ensures.ok, record { program = kept; spelled = c.in_ok-bytes.ensures }, ap reading c.in_ok-bytes.ensures ∙ c.a_spelling_is_read_again.ensures p kept)

pub returns-clause-faultless : goal.returns-clause-faultless
returns-clause-faultless c =
    let p = c.in_ok-source.field-0.program in
    let kept : IsProgram p = search rules in
    faultless _ p (ap reading c.in_ok-bytes.ensures ∙ c.a_spelling_is_read_again.ensures p kept)
