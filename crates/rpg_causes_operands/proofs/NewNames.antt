-- Names that are new have no other form before.
use Rattle.std.proofs.Common.{◌≡◌, ℕ, ◌+◌, ◌<◌, Bool, true, false, cond, ◌||◌, List, [], ◌∷◌, length, take, get_or, Option, None, Some, refl, sym, ap, subst, ◌∙◌, add-zero, arith}
use Rattle.std.specs.List.{list_any}
use Rattle.std.specs.Option.{is_some, option_and_then, option_map_or, option_or}
use Rattle.std.specs.Prelude.{not, slice_get}
use Rattle.rpg_card_index.proofs.PlaceLemmas.{stands}
use Rattle.rpg_card_index.specs.Index.{StandAt}
use Rattle.rpg_cards.proofs.FieldLemmas.{known_fields}
use Rattle.rpg_cards.specs.Names.{defined_as, first_form, form_by, form_in, given_names, is_new_name, is_of, same_name, unless_given}
use Rattle.rpg_cards.specs.declared.names.Defined.{Defined}
use Rattle.rpg_cards.specs.declared.names.Defined.TheVariants.{Missing}
use Rattle.rpg_cards.specs.declared.names.Definition.{Definition}
use Rattle.rpg_cards.specs.declared.spec_card.SpecCard.{SpecCard}
use Rattle.rpg_causes_operands.specs.Names.{redefined_among, redefined_as, redefined_by}
use Rattle.rpg_faults_limits.specs.Names.{redefine, redefines_as}
use Rattle.rpg_program.specs.declared.form.FieldForm.{FieldForm}
use Rattle.rpg_symbols.specs.Fields.{defined_form, given, same_form}

-- a name that no definition has is missing
no_form : (name : List ℕ) (ds : List Definition) → list_any (is_of name) ds ≡ false → first_form name ds ≡ Missing
no_form name [] e = refl
no_form name (d ∷ ds) e = by_test (is_of name d) e (no_form name ds)
  where
    by_test : (b : Bool) → (b || list_any (is_of name) ds) ≡ false → (list_any (is_of name) ds ≡ false → first_form name ds ≡ Missing) → cond b (defined_as d.form) (first_form name ds) ≡ Missing
    by_test true e rest = absurd cc
    by_test false e rest = rest e

-- a name that no definition before has is missing
form_missing : (front : List Definition) (d : Definition) → list_any (same_name d) given_names ≡ false → list_any (same_name d) front ≡ false → form_by d.name front ≡ Missing
form_missing front d not_given not_before =
    let none : defined_form given d.name ≡ None = no_some (defined_form given d.name) (sym (known_fields given d.name) ∙ not_given) in
    ap (λ o. unless_given o (first_form d.name front)) none ∙ no_form d.name front not_before
  where
    no_some : (o : Option FieldForm) → is_some o ≡ false → o ≡ None
    no_some None e = refl
    no_some (Some form) e = absurd cc

neither : (a b : Bool) → (a || b) ≡ false → (a ≡ false) × (b ≡ false)
neither true b e = absurd cc
neither false b e = (refl, e)

-- so is that of a definition that is the first of its name
new_form : (all items : List Definition) (place i : ℕ) (d : Definition) (new : Bool) → StandAt place items all → i < length items → d ≡ get_or items i d
    → ((x : Definition) → slice_get all (place + i) ≡ Some x → new ≡ is_new_name x.name (take (place + i) all)) → new ≡ true → form_by d.name (take (place + i) all) ≡ Missing
new_form all items place i d new at lt here is fresh =
    let there : slice_get all (place + i) ≡ Some d = stands all items place i d at lt here in
    let apart = neither (list_any (is_of d.name) given_names) (list_any (is_of d.name) (take (place + i) all)) (unknown (list_any (is_of d.name) given_names || list_any (is_of d.name) (take (place + i) all)) (sym fresh ∙ is d there)) in
    form_missing (take (place + i) all) d apart.0 apart.1
  where
    unknown : (b : Bool) → true ≡ not b → b ≡ false
    unknown true e = absurd cc
    unknown false e = refl

-- nothing compares with a form that isn't there
no_other : (o : Option FieldForm) → option_map_or (λ form. option_map_or (λ first. not (same_form first form)) None false) o false ≡ false
no_other None = refl
no_other (Some form) = refl

pub new_keeps : (all items : List Definition) (place i : ℕ) (d : Definition) (new : Bool) → StandAt place items all → i < length items → d ≡ get_or items i d
    → ((x : Definition) → slice_get all (place + i) ≡ Some x → new ≡ is_new_name x.name (take (place + i) all)) → new ≡ true → redefines_as (take (place + i) all) d ≡ false
new_keeps all items place i d new at lt here is fresh =
    ap (λ (f : Defined). option_map_or (λ form. option_map_or (λ first. not (same_form first form)) (form_in f) false) d.form false) (new_form all items place i d new at lt here is fresh) ∙ no_other d.form

no_cause : (cards : List SpecCard) (name : List ℕ) (o : Option FieldForm) → option_and_then (λ here. option_and_then (redefined_as cards name here) None) o ≡ None
no_cause cards name None = refl
no_cause cards name (Some here) = refl

pub new_none : (cards : List SpecCard) (all items : List Definition) (place i : ℕ) (d : Definition) (new : Bool) → StandAt place items all → i < length items → d ≡ get_or items i d
    → ((x : Definition) → slice_get all (place + i) ≡ Some x → new ≡ is_new_name x.name (take (place + i) all)) → new ≡ true → redefined_by cards (take (place + i) all) d ≡ None
new_none cards all items place i d new at lt here is fresh =
    ap (λ (f : Defined). option_and_then (λ here. option_and_then (redefined_as cards d.name here) (form_in f)) d.form) (new_form all items place i d new at lt here is fresh) ∙ no_cause cards d.name d.form

-- ---- a card that defines one name, and that is new

module _ (cards : List SpecCard) (all : List Definition) (place : ℕ) (new : Bool)
    (is : (x : Definition) → slice_get all place ≡ Some x → new ≡ is_new_name x.name (take place all)) (fresh : new ≡ true) where
  at_first : (P : ℕ → Type 0) → P place → P (place + 0)
  at_first P p = subst P (sym (add-zero place)) p

  pub alone_none : (items : List Definition) → StandAt place items all → length items ≡ 1 → redefined_among cards (take place all) items ≡ None
  alone_none [] at one = absurd cc
  alone_none (d ∷ []) at one =
      let none = new_none cards all (d ∷ []) place 0 d new at (omega arith) refl (at_first (λ n. (x : Definition) → slice_get all n ≡ Some x → new ≡ is_new_name x.name (take n all)) is) fresh in
      ap (λ x. option_or x None) (subst (λ n. redefined_by cards (take n all) d ≡ None) (add-zero place) none)
  alone_none (d ∷ e ∷ ds) at one = absurd cc

  pub alone_keeps : (items : List Definition) → StandAt place items all → length items ≡ 1 → redefine (take place all) items ≡ false
  alone_keeps [] at one = absurd cc
  alone_keeps (d ∷ []) at one =
      let kept = new_keeps all (d ∷ []) place 0 d new at (omega arith) refl (at_first (λ n. (x : Definition) → slice_get all n ≡ Some x → new ≡ is_new_name x.name (take n all)) is) fresh in
      ap (λ b. b || false) (subst (λ n. redefines_as (take n all) d ≡ false) (add-zero place) kept)
  alone_keeps (d ∷ e ∷ ds) at one = absurd cc
