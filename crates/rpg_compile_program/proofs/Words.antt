-- The characters of a constant by its key are those that its number has in the program.
use Rattle.std.proofs.Common.{◌≡◌, ℕ, suc, ◌+◌, Bool, true, false, cond, List, [], ◌∷◌, ◌++◌, map, length, Option, None, Some, refl, sym, ap, ◌∙◌, arith}
use Rattle.std.proofs.lemmas.Option.{slice_get-map}
use Rattle.std.specs.List.{flat_map, list_any}
use Rattle.std.specs.Option.{option_and_then, option_map, option_to_list}
use Rattle.std.specs.Prelude.{is_some, unwrap_or, ◌-◌, ◌&&◌}
use Rattle.rpg_cards.specs.Keys.{Fixed, Key, Named, Nowhere}
use Rattle.rpg_cards.specs.Plain.{Each}
use Rattle.rpg_cards.specs.Cards.{calculation_on, extension_on, input_field_on}
use Rattle.rpg_cards.specs.Constants.{constant_form, is_same}
use Rattle.rpg_cards.specs.Names.{definition_by, definition_in, definition_of, definitions, definitions_on, field_form, form_with, sized, sized_form, table_class, table_form, tables_on}
use Rattle.rpg_cards.specs.declared.constants.Constant.{Constant}
use Rattle.rpg_cards.specs.declared.constants.Constant.TheVariants.{Number, Text}
use Rattle.rpg_cards.specs.declared.names.Definition.{Definition}
use Rattle.rpg_cards.specs.declared.spec_card.SpecCard.{SpecCard}
use Rattle.rpg_program.specs.Forms.{is_constant, is_text_constant, same_kind}
use Rattle.rpg_program.specs.Values.{characters_of}
use Rattle.rpg_program.specs.declared.form.Class.{Class}
use Rattle.rpg_program.specs.declared.form.Class.TheVariants as class
use Rattle.rpg_program.specs.declared.form.FieldForm.{FieldForm}
use Rattle.rpg_program.specs.declared.form.Kind.{Kind}
use Rattle.rpg_program.specs.declared.form.Kind.TheVariants as kinds
use Rattle.rpg_program.specs.Constants.{first_value, values_at, word_at}
use Rattle.rpg_sheet_specs.specs.declared.calculation.CalculationSpec.{CalculationSpec}
use Rattle.rpg_sheet_specs.specs.declared.entry.Entry.{Entry}
use Rattle.rpg_sheet_specs.specs.declared.extension.ExtensionSpec.{ExtensionSpec}
use Rattle.rpg_sheet_specs.specs.declared.extension.TableSpec.{TableSpec}
use Rattle.rpg_sheet_specs.specs.declared.input.InputFieldSpec.{InputFieldSpec}
use Rattle.rpg_sheet_specs.specs.declared.spec.Spec.{Spec}
use Rattle.rpg_symbols.specs.Fields.{NamedForms, defined_form, given}
use Rattle.rpg_compile_program.proofs.Numbers.{constant_found, forms_same, get_after, length_map, place_position, standing}
use Rattle.rpg_compile_program.specs.Data.{constant_values, field_values, loaded, values_of}
use Rattle.rpg_compile_program.specs.Program.{program_of}
use Rattle.rpg_compile_program.specs.Table.{Table, constant_number, defined_fields, key_form, key_number, key_word, table_of, with_definition, with_definitions, with_form}
use Rattle.rpg_compile_program.proofs.Each.{each_append}

-- ---- no name is a constant

abbrev IsNoConstant : FieldForm → Type 0
IsNoConstant form = is_constant form.class ≡ false

abbrev AreNoConstants : NamedForms → Type 0
AreNoConstants fields = Each (λ (f : List ℕ × FieldForm). IsNoConstant f.1) fields

abbrev IsIfAny : Option FieldForm → Type 0
IsIfAny None = Unit {0}
IsIfAny (Some form) = IsNoConstant form

sized_is : (c : Class) (ascending : Bool) (n len : ℕ) (decimals : Option ℕ) → is_constant c ≡ false → IsIfAny (sized (form_with c ascending n) len decimals)
sized_is c ascending n len None e = by _
  where
    by : (b : Bool) → IsIfAny (cond b (Some (form_with c ascending n kinds.Text len 0)) None)
    by true = e
    by false = tt
sized_is c ascending n len (Some decimals) e = by _
  where
    by : (b : Bool) → IsIfAny (cond b (Some (form_with c ascending n kinds.Number len decimals)) None)
    by true = e
    by false = tt

unless : (b : Bool) (o : Option FieldForm) → IsIfAny o → IsIfAny (cond b o None)
unless true o h = h
unless false o h = tt

class_is : (b : Bool) → is_constant (cond b class.Table class.Array) ≡ false
class_is true = refl
class_is false = refl

table_is : (n : ℕ) (t : TableSpec) → IsIfAny (table_form n t)
table_is n t = unless _ _ (sized_is (table_class t.name) t.ascending n t.length t.decimals (class_is _))

field_is : (f : InputFieldSpec) → IsIfAny (field_form f)
field_is f = unless _ _ (sized_is class.Plain false 1 (f.to + 1 - f.from) f.decimals refl)

abbrev IsDefinedSo : Definition → Type 0
IsDefinedSo d = IsIfAny d.form

tables_are : (e : ExtensionSpec) (ts : List TableSpec) → Each IsDefinedSo (map (definition_in e) ts)
tables_are e [] = tt
tables_are e (t ∷ ts) = (table_is e.entries t, tables_are e ts)

extension_are : (o : Option ExtensionSpec) → Each IsDefinedSo (flat_map (λ e. map (definition_in e) (tables_on e)) (option_to_list o))
extension_are None = tt
extension_are (Some e) = each_append IsDefinedSo (map (definition_in e) (tables_on e)) [] (tables_are e (tables_on e)) tt

input_are : (o : Option InputFieldSpec) → Each IsDefinedSo (option_to_list (option_map definition_of o))
input_are None = tt
input_are (Some f) = (field_is f, tt)

result_are : (o : Option CalculationSpec) → Each IsDefinedSo (option_to_list (option_and_then definition_by o))
result_are None = tt
result_are (Some k) = by k.length k.result_field
  where
    by : (n : Option ℕ) (r : Option Entry) → Each IsDefinedSo (option_to_list (option_and_then (λ len. option_map (λ (e : Entry). record { name = e.name; form = sized_form len k.decimals }) r) n))
    by None r = tt
    by (Some len) None = tt
    by (Some len) (Some e) = (sized_is class.Plain false 1 len k.decimals refl, tt)

card_are : (s : Spec) → Each IsDefinedSo (definitions_on s)
card_are s =
    each_append IsDefinedSo (flat_map (λ e. map (definition_in e) (tables_on e)) (option_to_list (extension_on s)) ++ option_to_list (option_map definition_of (input_field_on s))) (option_to_list (option_and_then definition_by (calculation_on s)))
    (each_append IsDefinedSo (flat_map (λ e. map (definition_in e) (tables_on e)) (option_to_list (extension_on s))) (option_to_list (option_map definition_of (input_field_on s))) (extension_are (extension_on s)) (input_are (input_field_on s)))
    (result_are (calculation_on s))

all_are : (cards : List SpecCard) → Each IsDefinedSo (definitions cards)
all_are [] = tt
all_are (c ∷ cs) = each_append IsDefinedSo (definitions_on c.spec) (definitions cs) (card_are c.spec) (all_are cs)

with_is : (fields : NamedForms) (name : List ℕ) (o : Option FieldForm) → AreNoConstants fields → IsIfAny o → AreNoConstants (with_form fields name o)
with_is fields name None h e = h
with_is fields name (Some form) h e = by (is_some (defined_form fields name))
  where
    by : (b : Bool) → AreNoConstants (cond b fields (fields ++ (name, form) ∷ []))
    by true = h
    by false = each_append (λ (f : List ℕ × FieldForm). IsNoConstant f.1) fields ((name, form) ∷ []) h (e, tt)

names_are : (fields : NamedForms) (ds : List Definition) → AreNoConstants fields → Each IsDefinedSo ds → AreNoConstants (with_definitions fields ds)
names_are fields [] h g = h
names_are fields (d ∷ ds) h g = names_are (with_definition fields d) ds (with_is fields d.name d.form h g.0) g.1

found_is : (fields : NamedForms) (name : List ℕ) → AreNoConstants fields → is_text_constant (defined_form fields name) ≡ false
found_is [] name h = refl
found_is (f ∷ fs) name h = by _ (found_is fs name h.1)
  where
    no_text : (k : Kind) (b : Bool) → b ≡ false → (same_kind k kinds.Text && b) ≡ false
    no_text kinds.Number b e = refl
    no_text kinds.Text b e = e

    by : (b : Bool) → is_text_constant (defined_form fs name) ≡ false → is_text_constant (cond b (Some f.1) (defined_form fs name)) ≡ false
    by true r = no_text f.1.kind (is_constant f.1.class) h.0
    by false r = r

pub name_is_no_word : (cards : List SpecCard) (name : List ℕ) → is_text_constant (key_form (table_of cards) (Named name)) ≡ false
name_is_no_word cards name = found_is (defined_fields cards) name (names_are given (definitions cards) (refl, (refl, tt)) (all_are cards))

-- ---- words

module _ (cards : List SpecCard) (allowance : ℕ) where
  t : Table
  t = table_of cards

  constant_at : (x : Constant) → list_any (is_same x) (table_of cards).constants ≡ true → values_at (values_of cards) (constant_number (table_of cards) x) ≡ Some (constant_values x)
  constant_at x e =
      let names = map (field_values (loaded cards)) (table_of cards).names in
      let r = constant_found x (table_of cards).constants e in
      let number : constant_number (table_of cards) x ≡ length (table_of cards).names + r.0 + 1 = ap (λ o. unwrap_or (option_map (λ i. length (table_of cards).names + i + 1) o) 0) (place_position (is_same x) (table_of cards).constants r.0 r.1) in
      let next : length (table_of cards).names + r.0 + 1 ≡ suc (length (table_of cards).names + r.0) = omega arith in
      ap (values_at (values_of cards)) (number ∙ next)
      ∙ get_after names (map constant_values (table_of cards).constants) r.0 (length (table_of cards).names) (sym (length_map (field_values (loaded cards)) (table_of cards).names))
      ∙ slice_get-map constant_values (table_of cards).constants r.0 ∙ ap (option_map constant_values) r.2

  -- the form says whether there is a word
  word_by : (k : Key) → word_at (program_of cards allowance) (key_number (table_of cards) k) ≡ cond (is_text_constant (key_form (table_of cards) k)) (characters_of (first_value (values_at (values_of cards) (key_number (table_of cards) k)))) []
  unfolding word_at program_of
  word_by k = ap (λ f. cond (is_text_constant f) (characters_of (first_value (values_at (values_of cards) (key_number (table_of cards) k)))) []) (forms_same (table_of cards) k (standing (table_of cards) k))

  -- the characters of a key
  pub words_same : (k : Key) → word_at (program_of cards allowance) (key_number (table_of cards) k) ≡ key_word (table_of cards) k
  words_same (Named name) = word_by (Named name) ∙ ap (λ b. cond b (characters_of (first_value (values_at (values_of cards) (key_number (table_of cards) (Named name))))) []) (name_is_no_word cards name)
  words_same Nowhere = word_by Nowhere
  words_same (Fixed (Number n)) = word_by (Fixed (Number n)) ∙ by (list_any (is_same (Number n)) (table_of cards).constants)
    where
      by : (b : Bool) → cond (is_text_constant (cond b (Some (constant_form (Number n))) None)) (characters_of (first_value (values_at (values_of cards) (key_number (table_of cards) (Fixed (Number n)))))) [] ≡ []
      by true = refl
      by false = refl
  words_same (Fixed (Text text)) = word_by (Fixed (Text text)) ∙ by (list_any (is_same (Text text)) (table_of cards).constants) refl
    where
      by : (b : Bool) → list_any (is_same (Text text)) (table_of cards).constants ≡ b → cond (is_text_constant (cond b (Some (constant_form (Text text))) None)) (characters_of (first_value (values_at (values_of cards) (key_number (table_of cards) (Fixed (Text text)))))) [] ≡ cond b text []
      by true e = ap (λ vs. characters_of (first_value vs)) (constant_at (Text text) e)
      by false e = refl
