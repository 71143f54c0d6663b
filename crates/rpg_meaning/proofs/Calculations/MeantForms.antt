-- The compiler takes from the cards the forms and edit words that they mean.
use Rattle.std.proofs.Common.{◌≡◌, ℕ, ◌+◌, ◌-◌, Bool, true, false, cond, List, [], ◌∷◌, ◌++◌, slice_get, Option, None, Some, refl, ap, ◌∙◌}
use Rattle.std.proofs.lemmas.Cmp.{nat_list_eq_equiv}
use Rattle.std.specs.Cmp.Lexicographic.{pointwise}
use Rattle.std.specs.List.{cons_option, filter_map, flat_map}
use Rattle.std.specs.Option.{option_or, option_to_list}
use Rattle.std.specs.Prelude.{is_some, nat_eq, nat_le}
use Rattle.rpg_cards.proofs.FirstLemmas.{known_stays, lookup_push, option_or_assoc}
use Rattle.rpg_cards.proofs.InsertLemmas.{among}
use Rattle.rpg_cards.specs.Constants.{constant_form, constants_in, is_same}
use Rattle.rpg_cards.specs.Keys.{Fixed, Key, Named, Nowhere}
use Rattle.rpg_cards.specs.Names.{definition_by, definitions, definitions_on, field_form, form_with, sized, table_class, table_form}
use Rattle.rpg_cards.specs.SameConstants.{is_same_equiv}
use Rattle.rpg_cards.specs.declared.constants.Constant.{Constant}
use Rattle.rpg_cards.specs.declared.constants.Constant.TheVariants as constant
use Rattle.rpg_cards.specs.declared.names.Definition.{Definition}
use Rattle.rpg_cards.specs.declared.spec_card.SpecCard.{SpecCard}
use Rattle.rpg_program.specs.declared.form.Class.{Class}
use Rattle.rpg_program.specs.declared.form.Class.TheVariants as class
use Rattle.rpg_program.specs.declared.form.FieldForm.{FieldForm}
use Rattle.rpg_sheet_specs.specs.declared.entry.Entry.{Entry}
use Rattle.rpg_sheet_specs.specs.declared.extension.TableSpec.{TableSpec}
use Rattle.rpg_sheet_specs.specs.declared.input.InputFieldSpec.{InputFieldSpec}
use Rattle.rpg_sheet_specs.specs.declared.input.InputSpec.TheVariants as input
use Rattle.rpg_sheet_specs.specs.declared.spec.Spec.{Spec}
use Rattle.rpg_sheet_specs.specs.declared.spec.Spec.TheVariants as spec
use Rattle.rpg_symbols.specs.Fields.{NamedForms, defined_form, given}
use Rattle.rpg_text.specs.Texts.{is_between}
use Rattle.rpg_compile_program.specs.Table.{key_form, key_word, table_of, with_definition, with_definitions, with_form}
use Rattle.rpg_meaning.proofs.Calculations.MeantConstants.{constants_are_meant}
use Rattle.rpg_meaning.specs.Sheets.Forms.{meant_field_form, form_given, form_of_constant, form_of_named, meant_forms, given_by_result, given_by_table, given_on, sized_as, meant_words}

-- ---- the definitions of a card

sized_same : (c : Class) (ascending : Bool) (entries len : ℕ) (decimals : Option ℕ) → sized (form_with c ascending entries) len decimals ≡ sized_as c entries ascending len decimals
sized_same c ascending entries len None = refl
sized_same c ascending entries len (Some d) = refl

field_same : (f : InputFieldSpec) → field_form f ≡ meant_field_form f
field_same f = ap (λ o. cond (nat_le f.from f.to) o None) (sized_same class.Plain false 1 (f.to + 1 - f.from) f.decimals)

table_same : (entries : ℕ) (t : TableSpec) → (let d : Definition = record { name = t.name; form = table_form entries t } in d) ≡ given_by_table entries t
table_same entries t = λ i. record { name = t.name; form = cond (is_between 1 9999 entries) (sized_same (table_class t.name) t.ascending entries t.length t.decimals i) None }

card_same : (s : Spec) → definitions_on s ≡ given_on s
card_same (spec.Header x) = refl
card_same (spec.File x) = refl
card_same (spec.Extension e) = by e.alternating
  where
    by : (o : Option TableSpec) → definitions_on (spec.Extension (record e { alternating = o })) ≡ given_on (spec.Extension (record e { alternating = o }))
    by None = λ i. table_same e.entries e.table i ∷ []
    by (Some t) = λ i. table_same e.entries e.table i ∷ table_same e.entries t i ∷ []
card_same (spec.Form x) = refl
card_same (spec.Input (input.Type t)) = refl
card_same (spec.Input (input.And t)) = refl
card_same (spec.Input (input.Field f)) = λ i. record { name = f.name; form = field_same f i } ∷ []
card_same (spec.Calculation k) = by k.result_field k.length
  where
    by : (r : Option Entry) (l : Option ℕ) → option_to_list (definition_by (record k { result_field = r; length = l })) ≡ given_by_result r l k.decimals
    by None None = refl
    by None (Some len) = refl
    by (Some e) None = refl
    by (Some e) (Some len) = λ i. record { name = e.name; form = sized_same class.Plain false 1 len k.decimals i } ∷ []
card_same (spec.Output x) = refl
card_same (spec.Data x) = refl

definitions_same : (cards : List SpecCard) → definitions cards ≡ flat_map (λ c. given_on c.spec) cards
definitions_same [] = refl
definitions_same (c ∷ cs) = λ i. card_same c.spec i ++ definitions_same cs i

-- ---- the first definition of a name

or_none : {X : Type 0} (o : Option X) → o ≡ option_or o None
or_none None = refl
or_none (Some x) = refl

one_same : (fields : NamedForms) (q name : List ℕ) (o : Option FieldForm) → defined_form (with_form fields name o) q ≡ option_or (defined_form fields q) (cond (pointwise nat_eq q name) o None)
one_same fields q name None = by (pointwise nat_eq q name)
  where
    by : (b : Bool) → defined_form fields q ≡ option_or (defined_form fields q) (cond b None None)
    by true = or_none (defined_form fields q)
    by false = or_none (defined_form fields q)
one_same fields q name (Some form) = by (is_some (defined_form fields name)) refl
  where
    by : (b : Bool) → is_some (defined_form fields name) ≡ b →
        defined_form (cond b fields (fields ++ (name, form) ∷ [])) q ≡ option_or (defined_form fields q) (cond (pointwise nat_eq q name) (Some form) None)
    by true e = known_stays (pointwise nat_eq) nat_list_eq_equiv fields q name form e
    by false e = lookup_push (pointwise nat_eq q) fields name form

first_of_all : {X : Type 0} (o : Option X) (xs : List X) → option_or o (slice_get xs 0) ≡ slice_get (cons_option o xs) 0
first_of_all None xs = refl
first_of_all (Some x) xs = refl

all_same : (fields : NamedForms) (q : List ℕ) (ds : List Definition) → defined_form (with_definitions fields ds) q ≡ option_or (defined_form fields q) (slice_get (filter_map (form_given q) ds) 0)
all_same fields q [] = or_none (defined_form fields q)
all_same fields q (d ∷ ds) =
    all_same (with_definition fields d) q ds
    ∙ ap (λ o. option_or o (slice_get (filter_map (form_given q) ds) 0)) (one_same fields q d.name d.form)
    ∙ option_or_assoc (defined_form fields q) (form_given q d) (slice_get (filter_map (form_given q) ds) 0)
    ∙ ap (option_or (defined_form fields q)) (first_of_all (form_given q d) (filter_map (form_given q) ds))

named_form_same : (cards : List SpecCard) (name : List ℕ) → key_form (table_of cards) (Named name) ≡ form_of_named cards name
named_form_same cards name = all_same given name (definitions cards) ∙ ap (λ ds. option_or (defined_form given name) (slice_get (filter_map (form_given name) ds) 0)) (definitions_same cards)

-- ---- keys

constant_form_same : (c : Constant) → constant_form c ≡ form_of_constant c
constant_form_same (constant.Number n) = refl
constant_form_same (constant.Text text) = refl

pub form_same : (cards : List SpecCard) (k : Key) → key_form (table_of cards) k ≡ meant_forms cards k
form_same cards (Named name) = named_form_same cards name
form_same cards (Fixed c) = λ i. cond ((among is_same is_same_equiv c [] (constants_in cards) ∙ constants_are_meant c cards) i) (Some (constant_form_same c i)) None
form_same cards Nowhere = refl

pub word_same : (cards : List SpecCard) (k : Key) → key_word (table_of cards) k ≡ meant_words cards k
word_same cards (Named name) = refl
word_same cards (Fixed (constant.Number n)) = refl
word_same cards (Fixed (constant.Text text)) = λ i. cond ((among is_same is_same_equiv (constant.Text text) [] (constants_in cards) ∙ constants_are_meant (constant.Text text) cards) i) text []
word_same cards Nowhere = refl
