-- The forms of names have the sizes that forms may have.
use Rattle.std.proofs.Common.{◌≡◌, ℕ, ◌≤◌, ◌+◌, ◌-◌, List, [], ◌∷◌, ◌++◌, map, Bool, true, false, ◌&&◌, cond, Option, None, Some, refl, arith, IfSome}
use Rattle.std.proofs.lemmas.Bool.Decides.{nat_tests}
use Rattle.std.specs.List.{flat_map}
use Rattle.std.specs.Prelude.{codes, nat_eq, nat_le}
use Rattle.std.specs.Cmp.Lexicographic.{pointwise}
use Rattle.std.specs.Option.{option_and_then, option_map, option_to_list}
use Rattle.rpg_cards.specs.Cards.{calculation_on, extension_on, input_field_on}
use Rattle.rpg_cards.specs.Names.{defined_as, definition_by, definition_in, definition_of, definitions, definitions_on, field_form, first_form, form_in, form_of_name, form_with, is_of, sized, sized_form, table_class, table_form, tables_on, unless_given}
use Rattle.rpg_cards.specs.declared.names.Defined.{Defined}
use Rattle.rpg_cards.specs.declared.names.Definition.{Definition}
use Rattle.rpg_cards.specs.declared.spec_card.SpecCard.{SpecCard}
use Rattle.rpg_program.specs.declared.form.Class.{Class}
use Rattle.rpg_program.specs.declared.form.Class.TheVariants as class
use Rattle.rpg_program.specs.declared.form.FieldForm.{FieldForm}
use Rattle.rpg_sheet_specs.specs.declared.calculation.CalculationSpec.{CalculationSpec}
use Rattle.rpg_sheet_specs.specs.declared.entry.Entry.{Entry}
use Rattle.rpg_sheet_specs.specs.declared.extension.ExtensionSpec.{ExtensionSpec}
use Rattle.rpg_sheet_specs.specs.declared.extension.TableSpec.{TableSpec}
use Rattle.rpg_sheet_specs.specs.declared.input.InputFieldSpec.{InputFieldSpec}
use Rattle.rpg_sheet_specs.specs.declared.spec.Spec.{Spec}
use Rattle.rpg_symbols.specs.Fields.{defined_form, given, number_form}
use Rattle.rpg_text.specs.Texts.{is_between}
use Rattle.rpg_faults_operands.specs.Sizes.{IsSized}

-- ---- forms

abbrev HasSizeIf : Option FieldForm → Type 0
HasSizeIf o = IfSome o IsSized

if_true : (b : Bool) (form : FieldForm) → (b ≡ true → IsSized form) → HasSizeIf (cond b (Some form) None)
if_true true form h = h refl
if_true false form h = tt

if_else : (b : Bool) (o : Option FieldForm) → HasSizeIf o → HasSizeIf (cond b o None)
if_else true o h = h
if_else false o h = tt

text_size : (len : ℕ) → is_between 1 256 len ≡ true → (1 ≤ len) × (len ≤ 256)
text_size len h = (grind (arith, nat_tests), grind (arith, nat_tests))

number_size : (len decimals : ℕ) → (is_between 1 15 len && nat_le decimals 9 && nat_le decimals len) ≡ true → (1 ≤ len) × (len ≤ 15) × (decimals ≤ len)
number_size len decimals h = (grind (arith, nat_tests), grind (arith, nat_tests), grind (arith, nat_tests))

sized_with : (c : Class) (ascending : Bool) (n len : ℕ) (decimals : Option ℕ) → HasSizeIf (sized (form_with c ascending n) len decimals)
sized_with c ascending n len None = if_true (is_between 1 256 len) _ (text_size len)
sized_with c ascending n len (Some decimals) = if_true (is_between 1 15 len && nat_le decimals 9 && nat_le decimals len) _ (number_size len decimals)

field_sized : (f : InputFieldSpec) → HasSizeIf (field_form f)
field_sized f = if_else (nat_le f.from f.to) _ (sized_with class.Plain false 1 (f.to + 1 - f.from) f.decimals)

table_sized : (entries : ℕ) (t : TableSpec) → HasSizeIf (table_form entries t)
table_sized entries t = if_else (is_between 1 9999 entries) _ (sized_with (table_class t.name) t.ascending entries t.length t.decimals)

-- ---- definitions

AreSized : List Definition → Type 0
AreSized [] = Unit {0}
AreSized (d ∷ ds) = HasSizeIf d.form × AreSized ds

append : (ds es : List Definition) → AreSized ds → AreSized es → AreSized (ds ++ es)
unfolding AreSized
append [] es h k = k
append (d ∷ ds) es h k = (h.0, append ds es h.1 k)

tables_sized : (e : ExtensionSpec) (ts : List TableSpec) → AreSized (map (definition_in e) ts)
unfolding AreSized
tables_sized e [] = tt
tables_sized e (t ∷ ts) = (table_sized e.entries t, tables_sized e ts)

extension_sized : (o : Option ExtensionSpec) → AreSized (flat_map (λ e. map (definition_in e) (tables_on e)) (option_to_list o))
unfolding AreSized
extension_sized None = tt
extension_sized (Some e) = append (map (definition_in e) (tables_on e)) [] (tables_sized e (tables_on e)) tt

input_sized : (o : Option InputFieldSpec) → AreSized (option_to_list (option_map definition_of o))
unfolding AreSized
input_sized None = tt
input_sized (Some f) = (field_sized f, tt)

result_by : (len : Option ℕ) (e : Option Entry) (decimals : Option ℕ) →
    AreSized (option_to_list (option_and_then (λ l. option_map (λ x. record { name = x.name; form = sized_form l decimals }) e) len))
unfolding AreSized
result_by None e decimals = tt
result_by (Some len) None decimals = tt
result_by (Some len) (Some e) decimals = (sized_with class.Plain false 1 len decimals, tt)

result_sized : (o : Option CalculationSpec) → AreSized (option_to_list (option_and_then definition_by o))
unfolding AreSized
result_sized None = tt
result_sized (Some k) = result_by k.length k.result_field k.decimals

card_sized : (s : Spec) → AreSized (definitions_on s)
card_sized s = append _ _ (append _ _ (extension_sized (extension_on s)) (input_sized (input_field_on s))) (result_sized (calculation_on s))

all_sized : (cards : List SpecCard) → AreSized (definitions cards)
unfolding AreSized
all_sized [] = tt
all_sized (c ∷ cs) = append (definitions_on c.spec) (definitions cs) (card_sized c.spec) (all_sized cs)

-- ---- names

HasSizeAs : Defined → Type 0
HasSizeAs d = HasSizeIf (form_in d)

as_sized : (o : Option FieldForm) → HasSizeIf o → HasSizeAs (defined_as o)
unfolding HasSizeAs
as_sized None h = tt
as_sized (Some form) h = h

either : (b : Bool) (d e : Defined) → HasSizeAs d → HasSizeAs e → HasSizeAs (cond b d e)
either true d e h k = h
either false d e h k = k

first_sized : (name : List ℕ) (ds : List Definition) → AreSized ds → HasSizeAs (first_form name ds)
unfolding AreSized HasSizeAs
first_sized name [] h = tt
first_sized name (d ∷ ds) h = either (is_of name d) (defined_as d.form) (first_form name ds) (as_sized d.form h.0) (first_sized name ds h.1)

-- UDATE and PAGE
digits : (c : Class) (n : ℕ) → 1 ≤ n → n ≤ 15 → IsSized (number_form c n)
digits c n low high = (low, high, omega arith)

first_or : (b : Bool) (form : FieldForm) (o : Option FieldForm) → IsSized form → HasSizeIf o → HasSizeIf (cond b (Some form) o)
first_or true form o h k = h
first_or false form o h k = k

given_sized : (name : List ℕ) → HasSizeIf (defined_form given name)
given_sized name =
    first_or (pointwise nat_eq name (codes "UDATE")) (number_form class.Date 6) _ (digits class.Date 6 (omega arith) (omega arith))
    (first_or (pointwise nat_eq name (codes "PAGE")) (number_form class.Plain 4) None (digits class.Plain 4 (omega arith) (omega arith)) tt)

unless_sized : (o : Option FieldForm) (d : Defined) → HasSizeIf o → HasSizeAs d → HasSizeAs (unless_given o d)
unfolding HasSizeAs
unless_sized None d h k = k
unless_sized (Some form) d h k = h

pub sized_name : (name : List ℕ) (cards : List SpecCard) → IfSome (form_in (form_of_name name cards)) IsSized
unfolding HasSizeAs
sized_name name cards = unless_sized (defined_form given name) (first_form name (definitions cards)) (given_sized name) (first_sized name (definitions cards) (all_sized cards))
