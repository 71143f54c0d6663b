use Rattle.std.proofs.Common.{◌∙◌, sym, arith}
use Rattle.rpg_sheet_values.proofs.Digits.{digits_fit, four_digits_fit, nothing_has_room, when_some}
use Rattle.rpg_sheet_values.proofs.numbers.digits.Goals as goal

pub number_after-requires-clause-room : goal.number_after-requires-clause-room
number_after-requires-clause-room c = nothing_has_room _

pub overflow_cast-result : goal.overflow_cast-result
overflow_cast-result c =
    let is = when_some _ _ _ (sym c.number_after.ensures ∙ c.in_ok-value.was) in
    let below = digits_fit c.args.text.now is.0 in
    let most = four_digits_fit _ _ c.requires below in
    let value = is.1 in
    omega arith
