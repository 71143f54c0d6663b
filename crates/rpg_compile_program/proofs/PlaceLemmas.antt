-- The different items of cards with one more, and the numbers of names.
use Rattle.std.proofs.Common.{◌≡◌, ℕ, ◌+◌, ◌<◌, ◌≤◌, Bool, true, false, not, cond, List, [], ◌∷◌, ◌++◌, map, take, drop, length, Option, None, Some, refl, ap, sym, subst, ◌∙◌, arith, append_assoc}
use Rattle.std.proofs.lemmas.List.{length-map, take_more, take-append-drop}
use Rattle.std.proofs.lemmas.List.Quantifiers.{position-Some}
use Rattle.std.proofs.lemmas.Map.Entries.{length-keys_of}
use Rattle.std.specs.Cmp.Lexicographic.{pointwise}
use Rattle.std.specs.Map.{keys_of}
use Rattle.std.proofs.lemmas.List.Sums.{fold-append}
use Rattle.std.proofs.lemmas.Option.{get_or_from_slice_get, slice_get_within}
use Rattle.std.specs.List.{list_any, position_or_len}
use Rattle.std.specs.Option.{IfSome}
use Rattle.std.specs.Prelude.{is_some, nat_eq, nat_lt, position, slice_get, ◌||◌}
use Rattle.rpg_card_index.proofs.TotalLemmas.{same_name_equiv}
use Rattle.rpg_cards.proofs.FieldLemmas.{known_fields}
use Rattle.rpg_cards.proofs.InsertLemmas.{among, with_one}
use Rattle.rpg_cards.specs.Constants.{is_same}
use Rattle.rpg_cards.specs.Insertions.{insert_all}
use Rattle.rpg_cards.specs.Names.{defined_field, definitions, given_names, is_new_name, is_of, names, same_name}
use Rattle.rpg_cards.specs.Plain.{Each}
use Rattle.rpg_cards.specs.SameConstants.{is_same_equiv}
use Rattle.rpg_cards.specs.declared.constants.Constant.{Constant}
use Rattle.rpg_cards.specs.declared.names.Definition.{Definition}
use Rattle.rpg_cards.specs.declared.spec_card.SpecCard.{SpecCard}
use Rattle.rpg_compile_program.specs.Constants.{different}
use Rattle.rpg_compile_program.specs.Names.{names_up_to}
use Rattle.rpg_compile_program.proofs.Each.{each_at, each_front}
use Rattle.rpg_compile_program.proofs.NamedFields.{names_are, names_with}
use Rattle.rpg_compile_program.specs.Defined.{AreDefined, DefinesForm, IsForm}
use Rattle.rpg_compile_program.specs.Table.{defined_fields, with_definition, with_definitions, with_form}
use Rattle.rpg_program.specs.declared.form.FieldForm.{FieldForm}
use Rattle.rpg_symbols.specs.Fields.{NamedForms, defined_form, given}

-- ---- items, with one more

pub more_taken : {X : Type 0} (all : List X) (i : ℕ) (x : X) → slice_get all i ≡ Some x → take (i + 1) all ≡ take i all ++ x ∷ []
more_taken all i x at = take_more all i x (slice_get_within all i x at) ∙ ap (λ y. take i all ++ y ∷ []) (get_or_from_slice_get all i x x at)

turned : (a b : Bool) → a ≡ not b → b ≡ not a
turned true true e = absurd cc
turned true false e = refl
turned false true e = refl
turned false false e = absurd cc

-- ---- the different constants, with one more

next_is : (all : List Constant) (i : ℕ) (x : Constant) (new : Bool) → slice_get all i ≡ Some x → new ≡ not (list_any (is_same x) (take i all))
    → different all (i + 1) ≡ cond (not new) (different all i) (different all i ++ x ∷ [])
next_is all i x new at is =
    ap (λ (l : List Constant). insert_all is_same [] l) (more_taken all i x at) ∙ with_one is_same is_same_equiv [] (take i all) x
    ∙ ap (λ b. cond b (different all i) (different all i ++ x ∷ [])) (turned new (list_any (is_same x) (take i all)) is)

pub next_new : (all : List Constant) (i : ℕ) (x : Constant) (new : Bool) → slice_get all i ≡ Some x → new ≡ not (list_any (is_same x) (take i all)) → new ≡ true → different all (i + 1) ≡ different all i ++ x ∷ []
next_new all i x new at is fresh = next_is all i x new at is ∙ ap (λ b. cond (not b) (different all i) (different all i ++ x ∷ [])) fresh

pub next_known : (all : List Constant) (i : ℕ) (x : Constant) (new : Bool) → slice_get all i ≡ Some x → new ≡ not (list_any (is_same x) (take i all)) → new ≡ false → different all (i + 1) ≡ different all i
next_known all i x new at is known = next_is all i x new at is ∙ ap (λ b. cond (not b) (different all i) (different all i ++ x ∷ [])) known

-- ---- the fields of names, with one more definition

-- a definition at a place has a form
pub form_at : (cards : List SpecCard) (i : ℕ) (d : Definition) → AreDefined cards → slice_get (definitions cards) i ≡ Some d → DefinesForm d
form_at cards i d defined at =
    let ds = definitions cards in
    let split : ds ≡ take i ds ++ d ∷ drop (i + 1) ds =
    sym (take-append-drop (i + 1) ds) ∙ ap (λ (l : List Definition). l ++ drop (i + 1) ds) (more_taken ds i d at) ∙ append_assoc (take i ds) (d ∷ []) (drop (i + 1) ds) in
    each_at DefinesForm (take i ds) d (drop (i + 1) ds) (subst (Each DefinesForm) split defined)

-- a name is known if one of the definitions is of it
known_in : (cards : List SpecCard) (i : ℕ) (name : List ℕ) → AreDefined cards → is_some (defined_form (names_up_to cards i) name) ≡ (list_any (is_of name) given_names || list_any (is_of name) (take i (definitions cards)))
known_in cards i name defined =
    let ds = definitions cards in
    let sought : Definition = record { name = name; form = None } in
    let front : Each DefinesForm (take i ds) = each_front DefinesForm (take i ds) (drop i ds) (subst (Each DefinesForm) (sym (take-append-drop i ds)) defined) in
    sym (known_fields (names_up_to cards i) name) ∙ sym (ap (list_any (is_of name)) (names_with given (take i ds) front)) ∙ among same_name same_name_equiv sought given_names (take i ds)

next_fields : (cards : List SpecCard) (i : ℕ) (d : Definition) (form : FieldForm) (new : Bool) → AreDefined cards → slice_get (definitions cards) i ≡ Some d → d.form ≡ Some form
    → new ≡ is_new_name d.name (take i (definitions cards)) → names_up_to cards (i + 1) ≡ cond (not new) (names_up_to cards i) (names_up_to cards i ++ (d.name, form) ∷ [])
next_fields cards i d form new defined at formed is =
    let fields = names_up_to cards i in
    let known = list_any (is_of d.name) given_names || list_any (is_of d.name) (take i (definitions cards)) in
    ap (with_definitions given) (more_taken (definitions cards) i d at) ∙ fold-append with_definition given (take i (definitions cards)) (d ∷ [])
    ∙ ap (with_form fields d.name) formed
    ∙ ap (λ b. cond b fields (fields ++ (d.name, form) ∷ [])) (known_in cards i d.name defined ∙ turned new known is)

pub next_name : (cards : List SpecCard) (i : ℕ) (d : Definition) (form : FieldForm) (new : Bool) → AreDefined cards → slice_get (definitions cards) i ≡ Some d → d.form ≡ Some form
    → new ≡ is_new_name d.name (take i (definitions cards)) → new ≡ true → names_up_to cards (i + 1) ≡ names_up_to cards i ++ (d.name, form) ∷ []
next_name cards i d form new defined at formed is fresh =
    next_fields cards i d form new defined at formed is ∙ ap (λ b. cond (not b) (names_up_to cards i) (names_up_to cards i ++ (d.name, form) ∷ [])) fresh

pub next_same : (cards : List SpecCard) (i : ℕ) (d : Definition) (new : Bool) → AreDefined cards → slice_get (definitions cards) i ≡ Some d
    → new ≡ is_new_name d.name (take i (definitions cards)) → new ≡ false → names_up_to cards (i + 1) ≡ names_up_to cards i
next_same cards i d new defined at is known = by_form d.form refl
  where
    by_form : (o : Option FieldForm) → d.form ≡ o → names_up_to cards (i + 1) ≡ names_up_to cards i
    by_form None e = absurd (let there = form_at cards i d defined at in subst IsForm e there)
    by_form (Some form) e = next_fields cards i d form new defined at e is ∙ ap (λ b. cond (not b) (names_up_to cards i) (names_up_to cards i ++ (d.name, form) ∷ [])) known

-- ---- the number of a name

same_place : (name : List ℕ) (fields : NamedForms) → position_or_len (is_of name) (map defined_field fields) ≡ position_or_len (pointwise nat_eq name) (keys_of fields)
same_place name [] = refl
same_place name (f ∷ fs) = ap (λ n. cond (not (pointwise nat_eq name f.0)) (1 + n) 0) (same_place name fs)

-- a name's place among the names is that of its field
pub field_place : (cards : List SpecCard) (name : List ℕ) → AreDefined cards → position (is_of name) (names cards) ≡ position (pointwise nat_eq name) (keys_of (defined_fields cards))
field_place cards name defined =
    let fields = defined_fields cards in
    let long : length (map defined_field fields) ≡ length (keys_of fields) = length-map fields defined_field ∙ sym (length-keys_of fields) in
    ap (position (is_of name)) (names_are cards defined)
    ∙ ap (λ n. cond (nat_lt (position_or_len (is_of name) (map defined_field fields)) n) (Some (position_or_len (is_of name) (map defined_field fields))) None) long
    ∙ ap (λ k. cond (nat_lt k (length (keys_of fields))) (Some k) None) (same_place name fields)

-- a name's place is below 4,000
pub place_few : (name : List ℕ) (fields : NamedForms) (o : Option ℕ) → o ≡ position (pointwise nat_eq name) (keys_of fields) → length fields ≤ 4000 → IfSome o (λ place. place < 4000)
place_few name fields None e few = tt
place_few name fields (Some place) e few =
    let low = (position-Some (pointwise nat_eq name) (keys_of fields) place [] (sym e)).0 in
    let same = length-keys_of fields in
    omega (arith, low)
