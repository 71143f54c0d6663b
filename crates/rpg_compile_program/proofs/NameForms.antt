-- The form of a name's key is that of the name's first definition, and a constant of a card has its own.
use Rattle.std.proofs.Common.{◌≡◌, ℕ, Bool, true, false, cond, ◌||◌, List, [], ◌∷◌, ◌++◌, Option, None, Some, refl, ap, ◌∙◌}
use Rattle.std.proofs.lemmas.Cmp.{nat_list_eq_equiv}
use Rattle.std.specs.Cmp.Lexicographic.{pointwise}
use Rattle.std.specs.List.{list_any}
use Rattle.std.specs.Option.{option_or, option_to_list}
use Rattle.std.specs.Prelude.{is_some, nat_eq}
use Rattle.std.proofs.lemmas.Bool.{or_left, or_right}
use Rattle.std.proofs.lemmas.List.Folds.{list_any-append}
use Rattle.rpg_compile_program.specs.Defined.{AreDefined, DefinesForm, IsForm}
use Rattle.rpg_cards.specs.Keys.{Fixed, Named}
use Rattle.rpg_cards.specs.Plain.{Each}
use Rattle.rpg_cards.proofs.FirstLemmas.{known_stays, lookup_push, option_or_assoc}
use Rattle.rpg_cards.proofs.InsertLemmas.{among}
use Rattle.rpg_cards.proofs.ItemLemmas.{constants_in-append}
use Rattle.rpg_cards.specs.Constants.{constant_form, constants_in, constants_on, is_same}
use Rattle.rpg_cards.specs.Names.{defined_as, definitions, first_form, form_in, form_of_name, is_missing, unless_given}
use Rattle.rpg_cards.specs.SameConstants.{is_same_equiv}
use Rattle.rpg_cards.specs.declared.constants.Constant.{Constant}
use Rattle.rpg_cards.specs.declared.names.Defined.{Defined}
use Rattle.rpg_cards.specs.declared.names.Defined.TheVariants.{Bad, Valid, Missing}
use Rattle.rpg_cards.specs.declared.names.Definition.{Definition}
use Rattle.rpg_cards.specs.declared.spec_card.SpecCard.{SpecCard}
use Rattle.rpg_program.specs.declared.form.FieldForm.{FieldForm}
use Rattle.rpg_symbols.specs.Fields.{NamedForms, defined_form, given}
use Rattle.rpg_compile_program.specs.Table.{key_form, table_of, with_definitions, with_form, with_name}

-- ---- names

with_name-form : (fields : NamedForms) (name q : List ℕ) (form : FieldForm) →
    defined_form (with_name fields name form) q ≡ option_or (defined_form fields q) (cond (pointwise nat_eq q name) (Some form) None)
with_name-form fields name q form = by_cases (is_some (defined_form fields name)) refl
  where
    by_cases : (b : Bool) → is_some (defined_form fields name) ≡ b →
        defined_form (cond b fields (fields ++ (name, form) ∷ [])) q ≡ option_or (defined_form fields q) (cond (pointwise nat_eq q name) (Some form) None)
    by_cases true e = known_stays (pointwise nat_eq) nat_list_eq_equiv fields q name form e
    by_cases false e = lookup_push (pointwise nat_eq q) fields name form

first_form-in : (name q : List ℕ) (form : FieldForm) (later : Defined) →
    option_or (cond (pointwise nat_eq q name) (Some form) None) (form_in later) ≡ form_in (cond (pointwise nat_eq q name) (Valid form) later)
first_form-in name q form later = by_cases (pointwise nat_eq q name)
  where
    by_cases : (b : Bool) → option_or (cond b (Some form) None) (form_in later) ≡ form_in (cond b (Valid form) later)
    by_cases true = refl
    by_cases false = refl

one_definition : (fields : NamedForms) (q name : List ℕ) (o : Option FieldForm) (ds : List Definition) → IsForm o →
    ((more : NamedForms) → defined_form (with_definitions more ds) q ≡ option_or (defined_form more q) (form_in (first_form q ds))) →
    defined_form (with_definitions (with_form fields name o) ds) q ≡ option_or (defined_form fields q) (form_in (cond (pointwise nat_eq q name) (defined_as o) (first_form q ds)))
one_definition fields q name None ds valid rest = absurd valid
one_definition fields q name (Some form) ds valid rest =
    let later = first_form q ds in
    rest (with_name fields name form) ∙ ap (λ o. option_or o (form_in later)) (with_name-form fields name q form) ∙ option_or_assoc (defined_form fields q) _ (form_in later)
    ∙ ap (option_or (defined_form fields q)) (first_form-in name q form later)

with_definitions-form : (fields : NamedForms) (ds : List Definition) (q : List ℕ) → Each DefinesForm ds →
    defined_form (with_definitions fields ds) q ≡ option_or (defined_form fields q) (form_in (first_form q ds))
with_definitions-form fields [] q valid = or_none (defined_form fields q)
  where
    or_none : {X : Type 0} (o : Option X) → o ≡ option_or o None
    or_none None = refl
    or_none (Some x) = refl
with_definitions-form fields (d ∷ ds) q valid = one_definition fields q d.name d.form ds valid.0 (λ more. with_definitions-form more ds q valid.1)

given_or : (o : Option FieldForm) (d : Defined) → option_or o (form_in d) ≡ form_in (unless_given o d)
given_or None d = refl
given_or (Some form) d = refl

-- no definition is bad, so a name that isn't missing has a form
abbrev IsValid : Defined → Type 0
IsValid Missing = Unit {0}
IsValid Bad = ⊥
IsValid (Valid form) = Unit {0}

valid_in : (name : List ℕ) (ds : List Definition) → Each DefinesForm ds → IsValid (first_form name ds)
valid_in name [] valid = tt
valid_in name (d ∷ ds) valid = by _ d.form valid.0 (valid_in name ds valid.1)
  where
    by : (b : Bool) (o : Option FieldForm) → IsForm o → IsValid (first_form name ds) → IsValid (cond b (defined_as o) (first_form name ds))
    by b None h rest = absurd h
    by true (Some form) h rest = tt
    by false (Some form) h rest = rest

unless_valid : (o : Option FieldForm) (d : Defined) → IsValid d → IsValid (unless_given o d)
unless_valid None d h = h
unless_valid (Some form) d h = tt

there : (d : Defined) → IsValid d → is_missing d ≡ false → (form : FieldForm) × (d ≡ Valid form)
there Missing valid e = absurd cc
there Bad valid e = absurd valid
there (Valid form) valid e = (form, refl)

module _ (cards : List SpecCard) (defined : AreDefined cards) where
  pub name_form : (name : List ℕ) → key_form (table_of cards) (Named name) ≡ form_in (form_of_name name cards)
  name_form name = with_definitions-form given (definitions cards) name defined ∙ given_or (defined_form given name) (first_form name (definitions cards))

  pub name_there : (name : List ℕ) → is_missing (form_of_name name cards) ≡ false → (form : FieldForm) × (form_of_name name cards ≡ Valid form)
  name_there name e = there (form_of_name name cards) (unless_valid (defined_form given name) (first_form name (definitions cards)) (valid_in name (definitions cards) defined)) e

-- ---- the constants of cards have forms

pub stands_in : (x : Constant) (o : Option Constant) → o ≡ Some x → list_any (is_same x) (option_to_list o) ≡ true
stands_in x o e = ap (λ (p : Option Constant). list_any (is_same x) (option_to_list p)) e ∙ ap (λ b. b || false) ((is_same_equiv).refl x)

pub in_front : (x : Constant) (xs ys : List Constant) → list_any (is_same x) xs ≡ true → list_any (is_same x) (xs ++ ys) ≡ true
in_front x xs ys e = list_any-append (is_same x) xs ys ∙ or_left _ _ e

pub following : (x : Constant) (xs ys : List Constant) → list_any (is_same x) ys ≡ true → list_any (is_same x) (xs ++ ys) ≡ true
following x xs ys e = list_any-append (is_same x) xs ys ∙ or_right (list_any (is_same x) xs) _ e

pub constant_there : (cards before : List SpecCard) (c : SpecCard) (after : List SpecCard) (x : Constant) → cards ≡ before ++ c ∷ after → list_any (is_same x) (constants_on c.spec) ≡ true
    → key_form (table_of cards) (Fixed x) ≡ Some (constant_form x)
constant_there cards before c after x split e =
    let here : list_any (is_same x) (constants_in cards) ≡ true =
    ap (λ cs. list_any (is_same x) (constants_in cs)) split ∙ ap (list_any (is_same x)) (constants_in-append before (c ∷ after))
    ∙ following x (constants_in before) (constants_in (c ∷ after)) (in_front x (constants_on c.spec) (constants_in after) e) in
    ap (λ b. cond b (Some (constant_form x)) None) (among is_same is_same_equiv x [] (constants_in cards) ∙ here)
