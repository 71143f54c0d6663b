use Rattle.std.proofs.Common.{◌∷◌, [], arith, subst}
use Rattle.std.specs.Option.{option_to_list}
use Rattle.rpg_card_index.specs.Index.{StandAt}
use Rattle.rpg_cards.specs.Constants.{constants_in}
use Rattle.rpg_card_index.proofs.PlaceLemmas.{stand_within, stands_alone}
use Rattle.rpg_compile_program.proofs.names.FieldRows.add_optional_constant.Goals as goal

pub add_constant_if_first-requires : goal.add_constant_if_first-requires
add_constant_if_first-requires c =
    let all = constants_in c.args.source.now in
    stands_alone all c.args.place c.in-Some.constant (subst (λ o. StandAt c.args.place (option_to_list o) all) c.in-Some.is c.requires)

pub overflow_add-result : goal.overflow_add-result
overflow_add-result c =
    let all = constants_in c.args.source.now in
    let within = stand_within all (c.in-Some.constant ∷ []) c.args.place (subst (λ o. StandAt c.args.place (option_to_list o) all) c.in-Some.is c.requires) in
    omega (arith, c.keeps_limit.ensures.constants)
