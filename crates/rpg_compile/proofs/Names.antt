-- The names that cards define: what each field holds first fits its form.
use Rattle.std.proofs.Common.{◌≡◌, ℕ, Bool, true, false, cond, List, [], ◌∷◌, ◌++◌, map, replicate, Option, None, Some, refl, sym, ap, ◌∙◌, subst, subst₂}
use Rattle.std.proofs.lemmas.Cmp.{nat_list_eq_equiv}
use Rattle.std.specs.Cmp.Lexicographic.{bytes_decides, pointwise}
use Rattle.std.specs.Map.{lookup}
use Rattle.std.specs.Option.{option_or}
use Rattle.std.specs.Prelude.{is_some, nat_eq, unwrap_or}
use Rattle.rpg_cards.specs.Plain.{Each}
use Rattle.rpg_cards.proofs.FirstLemmas.{lookup_push}
use Rattle.rpg_cards.specs.Constants.{constant_form, constants}
use Rattle.rpg_cards.specs.Names.{definitions, form_in}
use Rattle.rpg_cards.specs.declared.names.Definition.{Definition}
use Rattle.rpg_cards.specs.declared.spec_card.SpecCard.{SpecCard}
use Rattle.rpg_compile_program.proofs.Each.{each_append, each_map}
use Rattle.rpg_program.specs.Values.{Value}
use Rattle.rpg_program.specs.declared.form.FieldForm.{FieldForm}
use Rattle.rpg_program.specs.Kept.{AreEntriesOf, AreValuesOf}
use Rattle.rpg_symbols.specs.Fields.{NamedForms, defined_form, given}
use Rattle.rpg_compile_program.proofs.Known.{name_known}
use Rattle.rpg_compile_program.proofs.Redefined.{card_defines, card_has_forms}
use Rattle.rpg_compile_program.specs.Data.{constant_values, field_values, first_of_kind, loaded, values_of}
use Rattle.rpg_compile_program.specs.Ranges.{AreCards}
use Rattle.rpg_compile_program.specs.Rules.{KeepsCardRules}
use Rattle.rpg_compile_program.specs.Table.{defined_fields, forms, name_forms, table_of, with_definition, with_definitions, with_form, with_name}
use Rattle.rpg_compile.proofs.Constants.{constants_fit}
use Rattle.rpg_compile.proofs.Entries.{FitsText}
use Rattle.rpg_compile.proofs.Filled.{all_fit, both_fit, empty_fits}
use Rattle.rpg_compile.proofs.Loaded.{IsLoaded, loaded_fit}

-- ---- a name stands once among the fields

-- a field has the form of its name
abbrev IsFirst : NamedForms → List ℕ × FieldForm → Type 0
IsFirst fields f = defined_form fields f.0 ≡ Some f.1

still_first : (fields : NamedForms) (name : List ℕ) (form : FieldForm) (f : List ℕ × FieldForm) → IsFirst fields f → IsFirst (fields ++ (name, form) ∷ []) f
still_first fields name form f e = lookup_push (pointwise nat_eq f.0) fields name form ∙ ap (λ o. option_or o (cond (pointwise nat_eq f.0 name) (Some form) None)) e

new_first : (fields : NamedForms) (name : List ℕ) (form : FieldForm) → is_some (defined_form fields name) ≡ false → IsFirst (fields ++ (name, form) ∷ []) (name, form)
new_first fields name form new =
    lookup_push (pointwise nat_eq name) fields name form ∙ ap (λ o. option_or o (cond (pointwise nat_eq name name) (Some form) None)) (missing (defined_form fields name) new)
    ∙ ap (λ b. cond b (Some form) None) ((nat_list_eq_equiv).refl name)
  where
    missing : (o : Option FieldForm) → is_some o ≡ false → o ≡ None
    missing None e = refl
    missing (Some x) e = absurd cc

name_first : (fields : NamedForms) (name : List ℕ) (form : FieldForm) → Each (IsFirst fields) fields → Each (IsFirst (with_name fields name form)) (with_name fields name form)
name_first fields name form h = by (is_some (defined_form fields name)) refl
  where
    by : (b : Bool) → is_some (defined_form fields name) ≡ b → Each (IsFirst (cond b fields (fields ++ (name, form) ∷ []))) (cond b fields (fields ++ (name, form) ∷ []))
    by true e = h
    by false e =
        each_append (IsFirst (fields ++ (name, form) ∷ [])) fields ((name, form) ∷ [])
        (each_map (IsFirst fields) (IsFirst (fields ++ (name, form) ∷ [])) fields (still_first fields name form) h) (new_first fields name form e, tt)

form_first : (fields : NamedForms) (name : List ℕ) (o : Option FieldForm) → Each (IsFirst fields) fields → Each (IsFirst (with_form fields name o)) (with_form fields name o)
form_first fields name None h = h
form_first fields name (Some form) h = name_first fields name form h

definitions_first : (fields : NamedForms) (ds : List Definition) → Each (IsFirst fields) fields → Each (IsFirst (with_definitions fields ds)) (with_definitions fields ds)
definitions_first fields [] h = h
definitions_first fields (d ∷ ds) h = definitions_first (with_definition fields d) ds (form_first fields d.name d.form h)

fields_first : (cards : List SpecCard) → Each (IsFirst (defined_fields cards)) (defined_fields cards)
fields_first cards = definitions_first given (definitions cards) (refl, (refl, tt))

-- ---- what is loaded under a name

-- what holds of each entry holds of the one that is found
found_holds : {V : Type 0} (P : List ℕ × V → Type 0) (entries : List (List ℕ × V)) (name : List ℕ) (v : V) → Each P entries → lookup (pointwise nat_eq name) entries ≡ Some v → P (name, v)
found_holds P [] name v h e = absurd cc
found_holds P (x ∷ xs) name v h e = by (pointwise nat_eq name x.0) refl e (found_holds P xs name v h.1)
  where
    by : (b : Bool) → pointwise nat_eq name x.0 ≡ b → cond b (Some x.1) (lookup (pointwise nat_eq name) xs) ≡ Some v → (lookup (pointwise nat_eq name) xs ≡ Some v → P (name, v)) → P (name, v)
    by true is e later = let same_name : x.0 ≡ name = sym ((bytes_decides name x.0).0 is) in let same : x.1 ≡ v = cc in subst₂ (λ n w. P (n, w)) same_name same h.0
    by false is e later = later e

module _ (cards : List SpecCard) (rules : KeepsCardRules cards) (ranges : AreCards cards) (spelled : FitsText) where
  all_loaded : Each (IsLoaded cards) (loaded cards)
  all_loaded = loaded_fit cards spelled ranges rules.f18 (card_defines cards rules) (card_has_forms cards rules)

  field_fits : (f : List ℕ × FieldForm) → IsFirst (defined_fields cards) f → AreEntriesOf f.1 (field_values (loaded cards) f)
  field_fits f first = by (lookup (pointwise nat_eq f.0) (loaded cards)) refl
    where
      by : (o : Option (List Value)) → lookup (pointwise nat_eq f.0) (loaded cards) ≡ o → AreEntriesOf f.1 (unwrap_or o (replicate f.1.entries (first_of_kind f.1.kind f.1.length)))
      by None is = empty_fits f.1
      by (Some vs) is =
          let of_name : IsLoaded cards (f.0, vs) = found_holds (IsLoaded cards) (loaded cards) f.0 vs all_loaded is in
          let known = sym first ∙ name_known cards rules f.0 ∙ ap form_in of_name.named in
          let same : of_name.form ≡ f.1 = cc in
          subst (λ form. AreEntriesOf form vs) same of_name.fits

  pub fields_filled : AreValuesOf (forms (table_of cards)) (values_of cards)
  fields_filled =
      both_fit (name_forms (defined_fields cards)) (map constant_form (constants cards)) (map (field_values (loaded cards)) (defined_fields cards)) (map constant_values (constants cards))
      (all_fit (λ (f : List ℕ × FieldForm). f.1) (field_values (loaded cards)) (defined_fields cards)
      (each_map (IsFirst (defined_fields cards)) (λ f. AreEntriesOf f.1 (field_values (loaded cards) f)) (defined_fields cards) field_fits (fields_first cards)))
      (constants_fit cards ranges)
