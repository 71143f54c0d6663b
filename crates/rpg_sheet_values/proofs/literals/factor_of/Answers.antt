use Rattle.std.proofs.Common.{◌≡◌, ◌∙◌, sym, rules}
use Rattle.std.specs.Prelude.{option_map}
use Rattle.rpg_sheet_specs.specs.declared.literal.Factor.TheVariants as factors
use Rattle.rpg_sheet_specs.specs.Values.{entry, literal}
use Rattle.rpg_sheet_values.proofs.Lettered.{lettered_factor, other_factor}
use Rattle.rpg_sheet_values.proofs.literals.factor_of.Goals as goal

pub returns-then-begins_with_letter : goal.returns-then-begins_with_letter
returns-then-begins_with_letter c =
    let mapped : c.map.result ≡ option_map factors.Entry (entry c.args.text.now) = search rules in
    mapped ∙ sym (lettered_factor c.args.text.now (sym c.begins_with_letter.ensures ∙ c.if-begins_with_letter.true))

pub returns-else-begins_with_letter : goal.returns-else-begins_with_letter
returns-else-begins_with_letter c =
    let mapped : c.map-else-begins_with_letter.result ≡ option_map factors.Literal (literal c.args.text.now) = search rules in
    mapped ∙ sym (other_factor c.args.text.now (sym c.begins_with_letter.ensures ∙ c.if-begins_with_letter.false))
