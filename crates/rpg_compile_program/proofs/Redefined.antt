-- Each definition of a source without a fault has the form that its name has.
use Rattle.std.proofs.Common.{◌≡◌, ℕ, Bool, true, false, not, cond, List, [], ◌∷◌, ◌++◌, Option, None, Some, refl, sym, ap, ◌∙◌, subst, append_assoc}
use Rattle.std.proofs.lemmas.Cmp.{nat_list_eq_equiv}
use Rattle.std.specs.Option.{option_map_or}
use Rattle.std.proofs.lemmas.Bool.{not-false}
use Rattle.rpg_cards.specs.Keys.{Named}
use Rattle.rpg_cards.specs.Plain.{Each}
use Rattle.rpg_cards.proofs.ItemLemmas.{definitions-append}
use Rattle.rpg_cards.specs.Names.{defined_as, definitions, definitions_on, first_form, form_by, form_in, form_of_name, is_of, unless_given}
use Rattle.rpg_cards.specs.declared.names.Defined.{Defined}
use Rattle.rpg_cards.specs.declared.names.Defined.TheVariants.{Bad, Valid, Missing}
use Rattle.rpg_cards.specs.declared.names.Definition.{Definition}
use Rattle.rpg_cards.specs.declared.spec_card.SpecCard.{SpecCard}
use Rattle.rpg_program.specs.declared.form.FieldForm.{FieldForm}
use Rattle.rpg_faults_limits.specs.Names.{redefine, redefines_as}
use Rattle.rpg_symbols.proofs.Forms.{same_form-equal}
use Rattle.rpg_symbols.specs.Fields.{defined_form, given, same_form}
use Rattle.rpg_compile_program.specs.Defined.{DefinesForm, IsForm}
use Rattle.rpg_compile_program.proofs.Known.{defined, name_known}
use Rattle.rpg_compile_program.proofs.Lists.{or_first, or_second}
use Rattle.rpg_compile_program.specs.Rules.{KeepsCardRules}
use Rattle.rpg_compile_program.specs.Table.{key_form, table_of}
use Rattle.rpg_compile_program.proofs.Each.{each_front}

-- ---- the first definition decides

first_of : Defined → Defined → Defined
first_of Missing later = later
first_of Bad later = Bad
first_of (Valid form) later = Valid form

first_form-append : (name : List ℕ) (xs ys : List Definition) → first_form name (xs ++ ys) ≡ first_of (first_form name xs) (first_form name ys)
unfolding first_of
first_form-append name [] ys = refl
first_form-append name (d ∷ ds) ys = ap (λ later. cond (is_of name d) (defined_as d.form) later) (first_form-append name ds ys) ∙ by_test (is_of name d) d.form
  where
    by_test : (t : Bool) (o : Option FieldForm) → cond t (defined_as o) (first_of (first_form name ds) (first_form name ys)) ≡ first_of (cond t (defined_as o) (first_form name ds)) (first_form name ys)
    by_test true None = refl
    by_test true (Some form) = refl
    by_test false o = refl

itself : (d : Definition) (form : FieldForm) (ys : List Definition) → d.form ≡ Some form → first_form d.name (d ∷ ys) ≡ Valid form
itself d form ys e = ap (λ b. cond b (defined_as d.form) (first_form d.name ys)) ((nat_list_eq_equiv).refl d.name) ∙ ap defined_as e

never_bad : (name : List ℕ) (ds : List Definition) → Each DefinesForm ds → first_form name ds ≡ Bad → ⊥
never_bad name [] h e = absurd cc
never_bad name (d ∷ ds) h e = by (is_of name d) d.form h.0 (never_bad name ds h.1) e
  where
    by : (b : Bool) (o : Option FieldForm) → IsForm o → (first_form name ds ≡ Bad → ⊥) → cond b (defined_as o) (first_form name ds) ≡ Bad → ⊥
    by b None h later e = h
    by true (Some form) h later e = absurd cc
    by false (Some form) h later e = later e

-- a definition that isn't another form has the form of its name
pub stays : (xs : List Definition) (d : Definition) (ys : List Definition) (form : FieldForm) → Each DefinesForm xs → redefines_as xs d ≡ false → d.form ≡ Some form → form_by d.name (xs ++ d ∷ ys) ≡ Valid form
unfolding first_of
stays xs d ys form valid same e = by_given (defined_form given d.name) alike
  where
    alike : option_map_or (λ first. not (same_form first form)) (form_in (form_by d.name xs)) false ≡ false
    alike = sym (ap (λ o. option_map_or (λ form. option_map_or (λ first. not (same_form first form)) (form_in (form_by d.name xs)) false) o false) e) ∙ same

    by_first : (o : Defined) → first_form d.name xs ≡ o → option_map_or (λ first. not (same_form first form)) (form_in o) false ≡ false → first_of o (first_form d.name (d ∷ ys)) ≡ Valid form
    by_first Missing is h = itself d form ys e
    by_first Bad is h = absurd (never_bad d.name xs valid is)
    by_first (Valid first) is h = ap Valid (same_form-equal first form (not-false _ h))

    by_given : (o : Option FieldForm) → option_map_or (λ first. not (same_form first form)) (form_in (unless_given o (first_form d.name xs))) false ≡ false → unless_given o (first_form d.name (xs ++ d ∷ ys)) ≡ Valid form
    by_given (Some g) h = ap Valid (same_form-equal g form (not-false _ h))
    by_given None h = first_form-append d.name xs (d ∷ ys) ∙ by_first (first_form d.name xs) refl h

-- ---- of a card

-- the definitions of a card, each after those before it
abbrev pub HasName : List SpecCard → Definition → Type 0
HasName cards d = (form : FieldForm) → d.form ≡ Some form → form_of_name d.name cards ≡ Valid form

each_stays : (cards : List SpecCard) (xs ds ys : List Definition) → definitions cards ≡ xs ++ (ds ++ ys) → Each DefinesForm (definitions cards) → redefine xs ds ≡ false → Each (HasName cards) ds
each_stays cards xs [] ys split valid same = tt
each_stays cards xs (d ∷ ds) ys split valid same = (
  λ form e. ap (form_by d.name) split ∙ stays xs d (ds ++ ys) form (each_front DefinesForm xs (d ∷ (ds ++ ys)) (subst (Each DefinesForm) split valid)) (or_first (redefines_as xs d) (redefine (xs ++ d ∷ []) ds) same) e,
  each_stays cards (xs ++ d ∷ []) ds ys (split ∙ sym (append_assoc xs (d ∷ []) (ds ++ ys))) valid (or_second (redefines_as xs d) (redefine (xs ++ d ∷ []) ds) same),
)

module _ (cards : List SpecCard) (rules : KeepsCardRules cards) where
  -- each definition of a card has the form of its name
  pub card_defines : (before : List SpecCard) (c : SpecCard) (after : List SpecCard) → cards ≡ before ++ c ∷ after → Each (HasName cards) (definitions_on c.spec)
  card_defines before c after split =
      each_stays cards (definitions before) (definitions_on c.spec) (definitions after) (ap definitions split ∙ definitions-append before (c ∷ after)) (defined cards rules) (rules.f2 before c after split)

  pub key_defined : (d : Definition) (form : FieldForm) → HasName cards d → d.form ≡ Some form → key_form (table_of cards) (Named d.name) ≡ Some form
  key_defined d form h e = name_known cards rules d.name ∙ ap form_in (h form e)

  each_second : {X : Type 0} (P : X → Type 0) (xs ys : List X) → Each P (xs ++ ys) → Each P ys
  each_second P [] ys h = h
  each_second P (x ∷ xs) ys h = each_second P xs ys h.1

  -- and has one
  pub card_has_forms : (before : List SpecCard) (c : SpecCard) (after : List SpecCard) → cards ≡ before ++ c ∷ after → Each DefinesForm (definitions_on c.spec)
  card_has_forms before c after split =
      each_front DefinesForm (definitions_on c.spec) (definitions after)
      (each_second DefinesForm (definitions before) (definitions_on c.spec ++ definitions after) (subst (Each DefinesForm) (ap definitions split ∙ definitions-append before (c ∷ after)) (defined cards rules)))
