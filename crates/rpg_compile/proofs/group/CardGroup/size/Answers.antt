use Rattle.std.proofs.Common.{◌≡◌, ◌<◌, true, false, sym, ap, ◌∙◌, subst}
use Rattle.rpg_cards.specs.Calculations.{calculation_of, last_card}
use Rattle.rpg_cards.specs.Statements.{statement_of, has_instruction}
use Rattle.rpg_compile_program.specs.Code.{size}
use Rattle.rpg_compile.proofs.Groups.{size_of_instruction, size_of_nothing}
use Rattle.rpg_compile.specs.Walk.{group_of, size_with}
use Rattle.rpg_compile.proofs.group.CardGroup.size.Goals as goal

pub returns-then-not-has_instruction : goal.returns-then-not-has_instruction
returns-then-not-has_instruction c =
    let has : has_instruction (statement_of (last_card (group_of c.self.inside.first.now c.self.inside.cards.now))) ≡ false =
    ap (λ k. has_instruction (statement_of k)) (sym c.self.invariant.last_is) ∙ sym c.has_instruction.ensures ∙ c.if-not-has_instruction.true in
    sym (size_of_nothing c.self.inside.first.now c.self.inside.cards.now has) ∙ ap (λ g. size (calculation_of g)) c.self.view_is

pub size_of-requires : goal.size_of-requires
size_of-requires c =
    let has : has_instruction (statement_of (last_card (group_of c.self.inside.first.now c.self.inside.cards.now))) ≡ true =
    ap (λ k. has_instruction (statement_of k)) (sym c.self.invariant.last_is) ∙ sym c.has_instruction.ensures ∙ c.if-not-has_instruction.false in
    let same : size (calculation_of c.args.self.now) ≡ size_with c.self.inside.first.now c.self.inside.cards.now =
    ap (λ g. size (calculation_of g)) (sym c.self.view_is) ∙ size_of_instruction c.self.inside.first.now c.self.inside.cards.now c.self.invariant.first_is has in
    subst (λ n. n < 65536) same c.requires

pub returns : goal.returns
returns c =
    let has : has_instruction (statement_of (last_card (group_of c.self.inside.first.now c.self.inside.cards.now))) ≡ true =
    ap (λ k. has_instruction (statement_of k)) (sym c.self.invariant.last_is) ∙ sym c.has_instruction.ensures ∙ c.if-not-has_instruction.false in
    c.size_of.ensures ∙ sym (size_of_instruction c.self.inside.first.now c.self.inside.cards.now c.self.invariant.first_is has) ∙ ap (λ g. size (calculation_of g)) c.self.view_is
