-- Constants of cards: each is a number or a text that a card may have, and fits a field of its own form.
use Rattle.std.proofs.Common.{◌≡◌, Bool, true, false, cond, List, [], ◌∷◌, ◌++◌, map, All, Option, None, Some, refl}
use Rattle.std.proofs.lemmas.Bool.{and_parts, leb-true}
use Rattle.std.proofs.lemmas.List.Elements.{All-cons, All-nil}
use Rattle.std.proofs.lemmas.List.Sums.{AllPass-from_list_all}
use Rattle.std.specs.List.{list_all, list_any}
use Rattle.std.specs.Option.{ForSome, option_and_then, option_map, option_to_list}
use Rattle.std.specs.Prelude.{IsTrue, ℕ, is_none}
use Rattle.rpg_cards.specs.Insertions.{insert_all, insert_key}
use Rattle.rpg_cards.specs.Plain.{Each}
use Rattle.rpg_cards.specs.Constants.{IsConstant, constant_form, constants, constants_in, constants_on, factor_constant, is_same}
use Rattle.rpg_cards.specs.declared.constants.Constant.{Constant}
use Rattle.rpg_cards.specs.declared.constants.Constant.TheVariants as constant
use Rattle.rpg_cards.specs.declared.spec_card.SpecCard.{SpecCard}
use Rattle.rpg_compile_program.proofs.Each.{each_append, each_map}
use Rattle.rpg_program.specs.Kept.{AreEntriesOf, AreValuesOf, IsCharacter, IsValueOf}
use Rattle.rpg_sheet_specs.specs.declared.literal.Factor.{Factor}
use Rattle.rpg_sheet_specs.specs.declared.literal.Factor.TheVariants as factor
use Rattle.rpg_sheet_specs.specs.declared.output.OutputSpec.{OutputSpec}
use Rattle.rpg_sheet_specs.specs.declared.output.OutputSpec.TheVariants as output
use Rattle.rpg_sheet_specs.specs.declared.spec.Spec.{Spec}
use Rattle.rpg_sheet_specs.specs.declared.spec.Spec.TheVariants as spec
use Rattle.rpg_text.specs.Texts.{is_character}
use Rattle.rpg_compile_program.specs.Data.{constant_value, constant_values}
use Rattle.rpg_compile_program.specs.Ranges.{AreCards, IsConstantText, IsFactor, IsInRange, IsOutput}
use Rattle.rpg_compile.proofs.Filled.{all_fit}

-- ---- a constant fits its own form

pub all_characters : (text : List ℕ) → IsTrue (list_all is_character text) → All IsCharacter text
all_characters text h = λ k d lt. let b = and_parts _ _ (AllPass-from_list_all is_character text h k d lt) in record { lowest = leb-true _ _ b.0; highest = leb-true _ _ b.1 }

value_fits : (c : Constant) → IsConstant c → IsValueOf (constant_form c).kind (constant_form c).length (constant_value c)
value_fits (constant.Number n) h = h.4
value_fits (constant.Text text) h = (refl, all_characters text h.2)

one_entry : (c : Constant) → 1 ≡ (constant_form c).entries
one_entry (constant.Number n) = refl
one_entry (constant.Text text) = refl

constant_fits : (c : Constant) → IsConstant c → AreEntriesOf (constant_form c) (constant_values c)
constant_fits c h = record {
  number = one_entry c;
  each = All-cons (IsValueOf (constant_form c).kind (constant_form c).length) (constant_value c) [] (value_fits c h) (All-nil (IsValueOf (constant_form c).kind (constant_form c).length));
}

-- ---- those that stand on cards

of_factor : (o : Option Factor) → ForSome o IsFactor → Each IsConstant (option_to_list (option_and_then factor_constant o))
of_factor None h = tt
of_factor (Some (factor.Entry e)) h = tt
of_factor (Some (factor.Literal l)) h = (h (factor.Literal l) refl, tt)

of_text : (plain : Bool) (o : Option (List ℕ)) → ForSome o IsConstantText → Each IsConstant (option_to_list (cond plain (option_map constant.Text o) None))
of_text false o h = tt
of_text true None h = tt
of_text true (Some text) h = (h text refl, tt)

on_output : (o : OutputSpec) → IsOutput o → Each IsConstant (constants_on (spec.Output o))
on_output (output.Record r) h = tt
on_output (output.And t) h = tt
on_output (output.Or t) h = tt
on_output (output.Field f) h = of_text (is_none f.code) f.text h.text

on_card : (s : Spec) → IsInRange s → Each IsConstant (constants_on s)
on_card (spec.Header x) h = tt
on_card (spec.File x) h = tt
on_card (spec.Extension x) h = tt
on_card (spec.Form x) h = tt
on_card (spec.Input x) h = tt
on_card (spec.Calculation k) h =
    let first = option_to_list (option_and_then factor_constant k.factor_1) in
    let second = option_to_list (option_and_then factor_constant k.factor_2) in
    each_append IsConstant (first ++ second) [] (each_append IsConstant first second (of_factor k.factor_1 h.factor_1) (of_factor k.factor_2 h.factor_2)) tt
on_card (spec.Output o) h = on_output o h
on_card (spec.Data x) h = tt

on_cards : (cards : List SpecCard) → AreCards cards → Each IsConstant (constants_in cards)
on_cards [] h = tt
on_cards (c ∷ cs) h = each_append IsConstant (constants_on c.spec) (constants_in cs) (on_card c.spec h.0) (on_cards cs h.1)

-- ---- equal ones once

insert_keeps : {X : Type 0} (eq : X → X → Bool) (P : X → Type 0) (known items : List X) → Each P known → Each P items → Each P (insert_all eq known items)
insert_keeps eq P known [] h g = h
insert_keeps eq P known (x ∷ xs) h g = insert_keeps eq P (insert_key eq known x) xs (by (list_any (eq x) known)) g.1
  where
    by : (b : Bool) → Each P (cond b known (known ++ x ∷ []))
    by true = h
    by false = each_append P known (x ∷ []) h (g.0, tt)

-- no constant of a program is out of its range
pub all_constants : (cards : List SpecCard) → AreCards cards → Each IsConstant (constants cards)
all_constants cards h = insert_keeps is_same IsConstant [] (constants_in cards) tt (on_cards cards h)

pub constants_fit : (cards : List SpecCard) → AreCards cards → AreValuesOf (map constant_form (constants cards)) (map constant_values (constants cards))
constants_fit cards h =
    all_fit constant_form constant_values (constants cards)
    (each_map IsConstant (λ c. AreEntriesOf (constant_form c) (constant_values c)) (constants cards) constant_fits (all_constants cards h))
