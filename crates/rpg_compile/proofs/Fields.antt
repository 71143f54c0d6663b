-- The fields of a source without a fault are fields of an object program.
use Rattle.std.proofs.Common.{◌≡◌, ℕ, ◌+◌, ◌-◌, ◌≤◌, Bool, true, false, cond, leb, List, [], ◌∷◌, ◌++◌, length, map, Option, None, Some, refl, subst, arith}
use Rattle.std.proofs.lemmas.Bool.{and_parts, leb-true}
use Rattle.std.specs.Cmp.Lexicographic.{pointwise}
use Rattle.std.specs.List.{flat_map}
use Rattle.std.specs.Map.{lookup}
use Rattle.std.specs.Option.{ForSome, option_and_then, option_map, option_to_list}
use Rattle.std.specs.Prelude.{All, ◌&&◌, is_some, nat_eq, nat_le}
use Rattle.rpg_cards.specs.Keys.{Named}
use Rattle.rpg_cards.specs.Plain.{Each}
use Rattle.rpg_cards.specs.Cards.{calculation_on, extension_on, input_field_on}
use Rattle.rpg_cards.specs.Constants.{IsConstant, constant_form, constants}
use Rattle.rpg_cards.specs.Names.{definition_by, definition_in, definition_of, definitions, definitions_on, form_with, is_table_name, sized, sized_form, tables_on}
use Rattle.rpg_cards.specs.declared.constants.Constant.{Constant}
use Rattle.rpg_cards.specs.declared.constants.Constant.TheVariants as constant
use Rattle.rpg_cards.specs.declared.names.Definition.{Definition}
use Rattle.rpg_cards.specs.declared.spec_card.SpecCard.{SpecCard}
use Rattle.rpg_compile_program.proofs.Each.{each_append, each_row}
use Rattle.rpg_program.specs.declared.form.Class.{Class}
use Rattle.rpg_program.specs.declared.form.Class.TheVariants as class
use Rattle.rpg_program.specs.declared.form.FieldForm.{FieldForm}
use Rattle.rpg_program.specs.Kept.{IsFieldRow, may_have_entries}
use Rattle.rpg_compile.proofs.Walks.{all_of}
use Rattle.rpg_compile.proofs.Constants.{all_constants}
use Rattle.rpg_sheet_specs.specs.declared.calculation.CalculationSpec.{CalculationSpec}
use Rattle.rpg_sheet_specs.specs.declared.entry.Entry.{Entry}
use Rattle.rpg_sheet_specs.specs.declared.extension.ExtensionSpec.{ExtensionSpec}
use Rattle.rpg_sheet_specs.specs.declared.extension.TableSpec.{TableSpec}
use Rattle.rpg_sheet_specs.specs.declared.input.InputFieldSpec.{InputFieldSpec}
use Rattle.rpg_sheet_specs.specs.declared.spec.Spec.TheVariants as spec
use Rattle.rpg_symbols.specs.Fields.{NamedForms, defined_form, given}
use Rattle.rpg_compile_program.specs.Ranges.{AreCards}
use Rattle.rpg_compile_program.specs.Table.{defined_fields, forms, key_form, name_forms, table_of, with_definition, with_definitions, with_form}

-- ---- forms

-- what is made where a test passes
of_test : (b : Bool) (f g : FieldForm) → cond b (Some f) None ≡ Some g → (b ≡ true) × (f ≡ g)
of_test true f g e = (refl, cc)
of_test false f g e = absurd cc

-- a class for so many entries, in sequence or not
record IsClass (k : Class) (ascending : Bool) (n : ℕ) : Type 0 where
  fewest : 1 ≤ n
  most : n ≤ 9999
  undated : k ≡ class.Date → ⊥
  single : may_have_entries k ≡ false → n ≡ 1
  unordered : may_have_entries k ≡ false → ascending ≡ false

sized_kept : (k : Class) (ascending : Bool) (n : ℕ) → IsClass k ascending n → (len : ℕ) (decimals : Option ℕ) (f : FieldForm) → sized (form_with k ascending n) len decimals ≡ Some f → IsFieldRow f
sized_kept k ascending n h len None f e =
    let t = of_test _ _ _ e in
    let r = and_parts (leb 1 len) (leb len 256) t.0 in
    subst IsFieldRow t.1
    (record { shortest = leb-true _ _ r.0; longest = leb-true _ _ r.1; decimals = refl; date = λ is. absurd (h.undated is); fewest = h.fewest; most = h.most; single = h.single; unordered = h.unordered })
sized_kept k ascending n h len (Some d) f e =
    let t = of_test _ _ _ e in
    let s = and_parts _ _ t.0 in
    let u = and_parts _ _ s.0 in
    let r = and_parts _ _ u.0 in
    subst IsFieldRow t.1
    (record {
      shortest = leb-true _ _ r.0;
      longest = leb-true _ _ r.1;
      decimals = (leb-true _ _ u.1, leb-true _ _ s.1);
      date = λ is. absurd (h.undated is);
      fewest = h.fewest;
      most = h.most;
      single = h.single;
      unordered = h.unordered;
    })

-- a definition with a form has one that an object program may have
abbrev HasValidForm : Definition → Type 0
HasValidForm d = ForSome d.form IsFieldRow

plain_kept : (len : ℕ) (decimals : Option ℕ) → ForSome (sized_form len decimals) IsFieldRow
plain_kept len decimals f e = sized_kept class.Plain false 1 (record { fewest = omega arith; most = omega arith; undated = λ is. absurd cc; single = λ is. refl; unordered = λ is. refl }) len decimals f e

where_true : (b : Bool) (o : Option FieldForm) → (b ≡ true → ForSome o IsFieldRow) → ForSome (cond b o None) IsFieldRow
where_true true o h f e = h refl f e
where_true false o h f e = absurd cc

table_kept : (e : ExtensionSpec) (t : TableSpec) → HasValidForm (definition_in e t)
table_kept e t = where_true (leb 1 e.entries && leb e.entries 9999) _ (λ within. let r = and_parts (leb 1 e.entries) (leb e.entries 9999) within in by (is_table_name t.name) (leb-true _ _ r.0) (leb-true _ _ r.1))
  where
    by : (b : Bool) → 1 ≤ e.entries → e.entries ≤ 9999 → ForSome (sized (form_with (cond b class.Table class.Array) t.ascending e.entries) t.length t.decimals) IsFieldRow
    by true low high f is = sized_kept class.Table t.ascending e.entries (record { fewest = low; most = high; undated = λ x. absurd cc; single = λ x. absurd cc; unordered = λ x. absurd cc }) t.length t.decimals f is
    by false low high f is = sized_kept class.Array t.ascending e.entries (record { fewest = low; most = high; undated = λ x. absurd cc; single = λ x. absurd cc; unordered = λ x. absurd cc }) t.length t.decimals f is

tables_kept : (e : ExtensionSpec) (ts : List TableSpec) → Each HasValidForm (map (definition_in e) ts)
tables_kept e [] = tt
tables_kept e (t ∷ ts) = (table_kept e t, tables_kept e ts)

extension_kept : (o : Option ExtensionSpec) → Each HasValidForm (flat_map (λ e. map (definition_in e) (tables_on e)) (option_to_list o))
extension_kept None = tt
extension_kept (Some e) = each_append HasValidForm (map (definition_in e) (tables_on e)) [] (tables_kept e (tables_on e)) tt

field_kept : (o : Option InputFieldSpec) → Each HasValidForm (option_to_list (option_map definition_of o))
field_kept None = tt
field_kept (Some i) = (where_true (nat_le i.from i.to) _ (λ order. plain_kept (i.to + 1 - i.from) i.decimals), tt)

result_kept : (k : CalculationSpec) (n : Option ℕ) (r : Option Entry) → Each HasValidForm (option_to_list (option_and_then (λ len. option_map (λ (e : Entry). record { name = e.name; form = sized_form len k.decimals }) r) n))
result_kept k None r = tt
result_kept k (Some len) None = tt
result_kept k (Some len) (Some e) = (plain_kept len k.decimals, tt)

calculation_kept : (o : Option CalculationSpec) → Each HasValidForm (option_to_list (option_and_then definition_by o))
calculation_kept None = tt
calculation_kept (Some k) = result_kept k k.length k.result_field

definitions_kept : (cards : List SpecCard) → Each HasValidForm (definitions cards)
definitions_kept [] = tt
definitions_kept (c ∷ cs) =
    let tables = flat_map (λ e. map (definition_in e) (tables_on e)) (option_to_list (extension_on c.spec)) in
    let fields = option_to_list (option_map definition_of (input_field_on c.spec)) in
    each_append HasValidForm (definitions_on c.spec) (definitions cs)
    (each_append HasValidForm (tables ++ fields) (option_to_list (option_and_then definition_by (calculation_on c.spec)))
    (each_append HasValidForm tables fields (extension_kept (extension_on c.spec)) (field_kept (input_field_on c.spec)))
    (calculation_kept (calculation_on c.spec)))
    (definitions_kept cs)

-- ---- names

abbrev IsValidField : List ℕ × FieldForm → Type 0
IsValidField f = IsFieldRow f.1

name_kept : (known : Bool) (fields : NamedForms) (name : List ℕ) (form : FieldForm) → Each IsValidField fields → IsFieldRow form → Each IsValidField (cond known fields (fields ++ (name, form) ∷ []))
name_kept true fields name form h k = h
name_kept false fields name form h k = each_append IsValidField fields ((name, form) ∷ []) h (k, tt)

form_kept : (fields : NamedForms) (name : List ℕ) (o : Option FieldForm) → ForSome o IsFieldRow → Each IsValidField fields → Each IsValidField (with_form fields name o)
form_kept fields name None valid h = h
form_kept fields name (Some form) valid h = name_kept (is_some (defined_form fields name)) fields name form h (valid form refl)

names_kept : (fields : NamedForms) (ds : List Definition) → Each HasValidForm ds → Each IsValidField fields → Each IsValidField (with_definitions fields ds)
names_kept fields [] valid h = h
names_kept fields (d ∷ ds) valid h = names_kept (with_definition fields d) ds valid.1 (form_kept fields d.name d.form valid.0 h)

given_kept : Each IsValidField given
given_kept = (
  record { shortest = omega arith; longest = omega arith; decimals = (omega arith, omega arith); date = λ is. record { kind = refl; digits = refl; decimals = refl }; fewest = omega arith; most = omega arith; single = λ is. refl; unordered = λ is. refl },
  (record { shortest = omega arith; longest = omega arith; decimals = (omega arith, omega arith); date = λ is. absurd cc; fewest = omega arith; most = omega arith; single = λ is. refl; unordered = λ is. refl }, tt),
)

all_names : (cards : List SpecCard) → Each IsValidField (defined_fields cards)
all_names cards = names_kept given (definitions cards) (definitions_kept cards) given_kept

-- a name's form is that of a field
looked_up : (test : List ℕ → Bool) (fields : NamedForms) → Each IsValidField fields → ForSome (lookup test fields) IsFieldRow
looked_up test [] h f e = absurd cc
looked_up test (x ∷ xs) h f e = by (test x.0) e (looked_up test xs h.1 f)
  where
    by : (b : Bool) → cond b (Some x.1) (lookup test xs) ≡ Some f → (lookup test xs ≡ Some f → IsFieldRow f) → IsFieldRow f
    by true is later = let same : x.1 ≡ f = cc in subst IsFieldRow same h.0
    by false is later = later is

pub named_kept : (cards : List SpecCard) (name : List ℕ) → ForSome (key_form (table_of cards) (Named name)) IsFieldRow
named_kept cards name = looked_up (pointwise nat_eq name) (defined_fields cards) (all_names cards)

-- ---- constants

constant_form_kept : (c : Constant) → IsConstant c → IsFieldRow (constant_form c)
constant_form_kept (constant.Number n) h =
    record { shortest = h.0; longest = h.1; decimals = (h.2, h.3); date = λ is. absurd cc; fewest = omega arith; most = omega arith; single = λ is. refl; unordered = λ is. refl }
constant_form_kept (constant.Text text) h =
    record { shortest = h.0; longest = let most = h.1 in omega arith; decimals = refl; date = λ is. absurd cc; fewest = omega arith; most = omega arith; single = λ is. refl; unordered = λ is. refl }

-- ---- all fields

pub fields_kept : (cards : List SpecCard) → AreCards cards → All IsFieldRow (forms (table_of cards))
fields_kept cards ranges =
    all_of IsFieldRow (forms (table_of cards)) (each_append IsFieldRow (name_forms (defined_fields cards)) (map constant_form (constants cards))
    (each_row IsValidField IsFieldRow (λ (f : List ℕ × FieldForm). f.1) (defined_fields cards) (λ f h. h) (all_names cards))
    (each_row IsConstant IsFieldRow constant_form (constants cards) constant_form_kept (all_constants cards ranges)))
