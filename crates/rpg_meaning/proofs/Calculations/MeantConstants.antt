-- The compiler takes from the cards the constants that stand on them.
use Rattle.std.proofs.Common.{◌≡◌, ℕ, ◌++◌, ◌||◌, Bool, true, false, cond, List, [], ◌∷◌, Option, None, Some, is_none, option_and_then, option_map, option_to_list, append-nil, refl, ap, ◌∙◌}
use Rattle.std.proofs.lemmas.List.Folds.{list_any-append}
use Rattle.std.specs.List.{list_any}
use Rattle.rpg_cards.specs.Constants.{constant_of, constants_in, constants_on, factor_constant, is_same}
use Rattle.rpg_cards.specs.declared.constants.Constant.{Constant}
use Rattle.rpg_cards.specs.declared.constants.Constant.TheVariants as constant
use Rattle.rpg_cards.specs.declared.spec_card.SpecCard.{SpecCard}
use Rattle.rpg_edit_marks.specs.declared.code.EditCode.{EditCode}
use Rattle.rpg_sheet_specs.specs.declared.literal.Factor.{Factor}
use Rattle.rpg_sheet_specs.specs.declared.literal.Factor.TheVariants as factor
use Rattle.rpg_sheet_specs.specs.declared.literal.Literal.{Literal}
use Rattle.rpg_sheet_specs.specs.declared.literal.Literal.TheVariants as literal
use Rattle.rpg_sheet_specs.specs.declared.output.OutputSpec.TheVariants as output
use Rattle.rpg_sheet_specs.specs.declared.spec.Spec.{Spec}
use Rattle.rpg_sheet_specs.specs.declared.spec.Spec.TheVariants as spec
use Rattle.rpg_meaning.specs.Sheets.Forms.{is_in_factor, is_in_field, is_literal, is_on_card, is_constant_of_text, stands_on}

or_none : (b : Bool) → (b || false) ≡ b
or_none true = refl
or_none false = refl

literal_same : (c : Constant) (l : Literal) → is_same c (constant_of l) ≡ is_literal c l
literal_same (constant.Number m) (literal.Number n) = refl
literal_same (constant.Number m) (literal.Text t) = refl
literal_same (constant.Text s) (literal.Number n) = refl
literal_same (constant.Text s) (literal.Text t) = refl

text_same : (c : Constant) (text : List ℕ) → is_same c (constant.Text text) ≡ is_constant_of_text c text
text_same (constant.Number m) text = refl
text_same (constant.Text s) text = refl

factor_same : (c : Constant) (o : Option Factor) → list_any (is_same c) (option_to_list (option_and_then factor_constant o)) ≡ is_in_factor c o
factor_same c None = refl
factor_same c (Some (factor.Entry e)) = refl
factor_same c (Some (factor.Literal l)) = or_none (is_same c (constant_of l)) ∙ literal_same c l

field_same : (c : Constant) (code : Option EditCode) (text : Option (List ℕ)) → list_any (is_same c) (option_to_list (cond (is_none code) (option_map constant.Text text) None)) ≡ is_in_field c code text
field_same c None None = refl
field_same c None (Some text) = or_none (is_same c (constant.Text text)) ∙ text_same c text
field_same c (Some code) text = refl

card_same : (c : Constant) (s : Spec) → list_any (is_same c) (constants_on s) ≡ is_on_card c s
card_same c (spec.Header x) = refl
card_same c (spec.File x) = refl
card_same c (spec.Extension x) = refl
card_same c (spec.Form x) = refl
card_same c (spec.Input x) = refl
card_same c (spec.Calculation k) =
    let first : List Constant = option_to_list (option_and_then factor_constant k.factor_1) in
    let second : List Constant = option_to_list (option_and_then factor_constant k.factor_2) in
    ap (list_any (is_same c)) (append-nil (first ++ second)) ∙ list_any-append (is_same c) first second ∙ (λ i. factor_same c k.factor_1 i || factor_same c k.factor_2 i)
card_same c (spec.Output (output.Record r)) = refl
card_same c (spec.Output (output.And t)) = refl
card_same c (spec.Output (output.Or t)) = refl
card_same c (spec.Output (output.Field f)) = field_same c f.code f.text
card_same c (spec.Data x) = refl

pub constants_are_meant : (c : Constant) (cards : List SpecCard) → list_any (is_same c) (constants_in cards) ≡ stands_on cards c
constants_are_meant c [] = refl
constants_are_meant c (k ∷ ks) = list_any-append (is_same c) (constants_on k.spec) (constants_in ks) ∙ (λ i. card_same c k.spec i || constants_are_meant c ks i)
