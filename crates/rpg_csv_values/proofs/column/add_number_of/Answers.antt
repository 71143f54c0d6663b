use Rattle.std.proofs.Common.{◌≡◌, ◌<◌, ◌^◌, ◌++◌, unsigned_abs, ap, sym, subst, refl, ◌∙◌, rules, FitsSigned, to_z-of_z, w64, true, Some, option_map}
use Rattle.rpg_csv_values.specs.Contents.{HasMade, columns_number, number_content}
use Rattle.rpg_csv_values.proofs.column.add_number_of.Goals as goal

pub returns-in_ok-add_number-in-Some : goal.returns-in_ok-add_number-in-Some
returns-in_ok-add_number-in-Some c =
    let n = c.in-Some.number in
    let old = c.args.out.now.items in
    let new = c.add_number.new.out.items in
    let content = number_content c.args.decimals c.args.point in
    let few : unsigned_abs n < 10 ^ 15 = c.in-Some.ensures.few in
    let fits : FitsSigned w64 n = search (rules, few) in
    let known : columns_number c.args.columns.now ≡ Some n = sym c.in-Some.ensures.value in
    let made : new ≡ old ++ content n = c.in_ok-add_number-in-Some.ensures ∙ ap (λ m. old ++ content m) (to_z-of_z fits) in
    subst (λ o. HasMade old new (option_map content o) true) (sym known) (refl, made)
