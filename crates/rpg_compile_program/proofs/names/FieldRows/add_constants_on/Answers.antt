use Rattle.std.proofs.Common.{◌≡◌, ℕ, ◌+◌, ◌++◌, List, [], ◌∙◌, ap, append_assoc, length, subst, sym}
use Rattle.std.specs.Option.{option_and_then, option_to_list}
use Rattle.rpg_card_index.specs.Index.{StandAt}
use Rattle.rpg_cards.specs.Constants.{constants_in, constants_on, factor_constant}
use Rattle.rpg_cards.specs.declared.constants.Constant.{Constant}
use Rattle.rpg_card_index.proofs.PlaceLemmas.{stand_first, stand_second}
use Rattle.rpg_sheet_specs.specs.declared.calculation.CalculationSpec.{CalculationSpec}
use Rattle.rpg_sheet_specs.specs.declared.spec.Spec.{Spec}
use Rattle.rpg_sheet_specs.specs.declared.spec.Spec.TheVariants as spec
use Rattle.rpg_compile_program.proofs.names.FieldRows.add_constants_on.Goals as goal

-- the constant in factor 2 stands after that in factor 1
second_stands : (s : Spec) (k : CalculationSpec) (all : List Constant) (start next : ℕ) → s ≡ spec.Calculation k → StandAt start (constants_on s) all
    → next ≡ start + length (option_to_list (option_and_then factor_constant k.factor_1)) → StandAt next (option_to_list (option_and_then factor_constant k.factor_2)) all
second_stands s k all start next is at after =
    let first = option_to_list (option_and_then factor_constant k.factor_1) in
    let second = option_to_list (option_and_then factor_constant k.factor_2) in
    let parts : constants_on s ≡ first ++ (second ++ []) = ap constants_on is ∙ append_assoc first second [] in
    stand_first all second [] next (stand_second all first (second ++ []) start next (subst (λ xs. StandAt start xs all) parts at) after)

pub add_optional_constant-requires-in-Calculation : goal.add_optional_constant-requires-in-Calculation
add_optional_constant-requires-in-Calculation c =
    let all = constants_in c.args.source.now in
    let next = c.in_ok-place-in-Calculation.ensures.place ∙ ap (λ o. c.args.start + length (option_to_list o)) c.constant_in-first.ensures in
    subst (λ o. StandAt c.in_ok-place-in-Calculation.place (option_to_list o) all) (sym c.constant_in-second.ensures)
    (second_stands c.args.card.now.spec c.in-Calculation.calculation all c.args.start c.in_ok-place-in-Calculation.place c.in-Calculation.is c.requires next)
