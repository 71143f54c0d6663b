use Rattle.std.proofs.Common.{◌∙◌, sym}
use Rattle.rpg_cli_warnings.proofs.FirstForms.{digits_of_first}
use Rattle.rpg_cli_warnings.proofs.digits.result_digits.Goals as goal

pub returns-in-Some : goal.returns-in-Some
returns-in-Some c =
    c.given_digits.ensures
    ∙ sym (digits_of_first c.args.source.now c.args.place c.args.calculation.now c.in_ok-entry.entry.now c.in-Some.length c.is_first_name.result (sym c.in_ok-entry.ensures.value) c.in-Some.is c.requires
    c.is_first_name.ensures c.if-is_first_name.true)
