use Rattle.std.proofs.Common.{◌≡◌, ◌+◌, ◌++◌, ◌∷◌, ◌<◌, [], sym, ap, ◌∙◌, subst, append-nil}
use Rattle.std.proofs.lemmas.Result.{on_ok_weaker}
use Rattle.rpg_cards.specs.Calculations.{calculation_of, last_card}
use Rattle.rpg_cards.specs.Statements.{statement_of}
use Rattle.rpg_compile_program.specs.Code.{group_code, size, step_code}
use Rattle.rpg_compile.proofs.Groups.{size_of_instruction}
use Rattle.rpg_compile.proofs.Steps.{group_of_nothing, group_of_one, has_one}
use Rattle.rpg_compile.proofs.section.push_group.Goals as goal
use Rattle.rpg_compile.specs.Numbers.{number_by}
use Rattle.rpg_compile.specs.Steps.{code_of_group}
use Rattle.rpg_compile.specs.Walk.{group_of, size_with}
use Rattle.rpg_compile_program.specs.Table.{key_number}

pub push_cards-requires-clause-places : goal.push_cards-requires-clause-places
push_cards-requires-clause-places c =
    let s = c.args.section.now in
    let g = c.args.group.now in
    let cards = c.cards.result.now in
    let steps = step_code (key_number s.table.now) (number_by s.labels.now) (number_by s.subroutines.now) s.own in
    let one : c.in-Some.instruction ∷ [] ≡ steps (statement_of (last_card (group_of g.first cards))) = c.in-Some.ensures.value ∙ ap (λ k. steps (statement_of k)) c.last.ensures ∙ ap (λ h. steps (statement_of (last_card h))) (sym c.cards.ensures.group) in
    let has = has_one (key_number s.table.now) (number_by s.labels.now) (number_by s.subroutines.now) s.own (statement_of (last_card (group_of g.first cards))) c.in-Some.instruction one in
    let same : size (calculation_of g) ≡ size_with c.first.result.now cards = ap (λ h. size (calculation_of h)) (sym c.cards.ensures.group) ∙ size_of_instruction g.first cards c.cards.ensures.first has ∙ ap (λ k. size_with k cards) (sym c.first.ensures) in
    subst (λ n. c.args.place + n < 65536) same c.requires

pub returns-in_default : goal.returns-in_default
returns-in_default c =
    let s = c.args.section.now in
    let g = c.args.group.now in
    let steps = step_code (key_number s.table.now) (number_by s.labels.now) (number_by s.subroutines.now) s.own in
    let none : [] ≡ steps (statement_of (last_card g)) = c.in_default.ensures.value ∙ ap (λ k. steps (statement_of k)) c.last.ensures in
    sym (ap (λ is. c.args.code.now ++ is) (group_of_nothing (key_number s.table.now) (number_by s.labels.now) (number_by s.subroutines.now) s.own c.args.place g none) ∙ append-nil c.args.code.now)

pub returns : goal.returns
returns c =
    let s = c.args.section.now in
    let g = c.args.group.now in
    let cards = c.cards.result.now in
    let steps = step_code (key_number s.table.now) (number_by s.labels.now) (number_by s.subroutines.now) s.own in
    let code = group_code (key_number s.table.now) (number_by s.labels.now) (number_by s.subroutines.now) s.own c.args.place in
    let one : c.in-Some.instruction ∷ [] ≡ steps (statement_of (last_card (group_of g.first cards))) = c.in-Some.ensures.value ∙ ap (λ k. steps (statement_of k)) c.last.ensures ∙ ap (λ h. steps (statement_of (last_card h))) (sym c.cards.ensures.group) in
    let same : c.args.code.now ++ code_of_group c.args.place c.first.result.now cards c.in-Some.instruction ≡ c.args.code.now ++ code (calculation_of g) =
    ap (λ k. c.args.code.now ++ code_of_group c.args.place k cards c.in-Some.instruction) c.first.ensures
    ∙ ap (λ is. c.args.code.now ++ is) (sym (group_of_one (key_number s.table.now) (number_by s.labels.now) (number_by s.subroutines.now) s.own c.args.place g.first cards c.in-Some.instruction c.cards.ensures.first one)
    ∙ ap (λ h. code (calculation_of h)) c.cards.ensures.group) in
    on_ok_weaker c.push_cards.result (λ made. made ∙ same) c.push_cards.ensures
