-- Names with their data, joined and looked through.
use Rattle.std.proofs.Common.{◌≡◌, ℕ, suc, ◌+◌, ◌<◌, Bool, true, false, cond, List, [], ◌∷◌, ◌++◌, map, length, take, drop, get_or, Option, None, Some, refl, sym, ap, ◌∙◌, arith, drop-cons, add-one}
use Rattle.std.proofs.lemmas.Cmp.{nat_list_eq_equiv}
use Rattle.std.proofs.lemmas.List.{append_assoc, map-append, take-append-drop}
use Rattle.std.proofs.lemmas.Map.Made.{lookup-map_values}
use Rattle.std.specs.Cmp.Lexicographic.{pointwise}
use Rattle.std.specs.Map.{lookup}
use Rattle.std.specs.Option.{option_map, option_map_or, option_or, option_to_list}
use Rattle.std.specs.Prelude.{is_some, nat_eq, replicate, unwrap_or}
use Rattle.rpg_cards.proofs.FirstLemmas.{known_stays}
use Rattle.rpg_cards.specs.Cards.{calculation_on, extension_on, input_field_on}
use Rattle.rpg_cards.specs.Groups.{data_role, followers}
use Rattle.rpg_cards.specs.declared.spec_card.SpecCard.{SpecCard}
use Rattle.rpg_program.specs.Values.{Value}
use Rattle.rpg_program.specs.declared.form.FieldForm.{FieldForm}
use Rattle.rpg_compile_program.specs.Loaded.{HasSameData, TakesDeck, loaded_values, tables_after}
use Rattle.rpg_compile_program.specs.Tables.{values_on}
use Rattle.rpg_compile_program.specs.declared.tables.TableData.{TableData}
use Rattle.rpg_faults_flow.specs.Kept.{KeepsRule}
use Rattle.rpg_faults_limits.specs.Names.{bad_size, bad_size_of_field, bad_size_of_result, bad_size_of_tables}
use Rattle.rpg_faults_data.specs.Data.{data_columns, data_entries}
use Rattle.rpg_sheet_specs.specs.declared.extension.ExtensionSpec.{ExtensionSpec}
use Rattle.rpg_sheet_specs.specs.declared.extension.TableSpec.{TableSpec}
use Rattle.rpg_symbols.specs.Fields.{NamedForms}
use Rattle.rpg_compile_program.proofs.Lists.{or_first}
use Rattle.rpg_compile_program.specs.Data.{Loaded, all_loaded, decks, entry_value, field_values, first_of_kind, tables_loaded, with_deck}

lookup-append : {K V : Type 0} (test : K → Bool) (xs ys : List (K × V)) → lookup test (xs ++ ys) ≡ option_or (lookup test xs) (lookup test ys)
lookup-append test [] ys = refl
lookup-append test (x ∷ xs) ys = by_test (test x.0) (lookup-append test xs ys)
  where
    by_test : (b : Bool) → lookup test (xs ++ ys) ≡ option_or (lookup test xs) (lookup test ys)
        → cond b (Some x.1) (lookup test (xs ++ ys)) ≡ option_or (cond b (Some x.1) (lookup test xs)) (lookup test ys)
    by_test true rest = refl
    by_test false rest = rest

pub same_after : (xs ys zs : List Loaded) → HasSameData xs ys → HasSameData (xs ++ zs) (ys ++ zs)
same_after xs ys zs same name =
    lookup-append (pointwise nat_eq name) xs zs ∙ ap (λ o. option_or o (loaded_values name zs)) (same name) ∙ sym (lookup-append (pointwise nat_eq name) ys zs)

-- each field holds the same by them
pub same_values : (xs ys : List Loaded) (fields : NamedForms) → HasSameData xs ys → map (field_values xs) fields ≡ map (field_values ys) fields
same_values xs ys [] same = refl
same_values xs ys (f ∷ fs) same =
    let here : field_values xs f ≡ field_values ys f = ap (λ o. unwrap_or o (replicate f.1.entries (first_of_kind f.1.kind f.1.length))) (same f.0) in
    let rest = same_values xs ys fs same in
    cc

-- ---- E cards, card by card

-- no table of an E card has a bad size
pub sizes_at : (cards : List SpecCard) (i : ℕ) (c : SpecCard) (e : ExtensionSpec) → KeepsRule (λ before c after. bad_size c) cards → i < length cards → c ≡ get_or cards i c
    → extension_on c.spec ≡ Some e → bad_size_of_tables e ≡ false
sizes_at cards i c e kept less is on =
    let here : drop i cards ≡ c ∷ drop (i + 1) cards =
    drop-cons cards i c less ∙ ap (λ (d : SpecCard). d ∷ drop (suc i) cards) (sym is) ∙ ap (λ k. c ∷ drop k cards) (sym (add-one i)) in
    let split : cards ≡ take i cards ++ c ∷ drop (i + 1) cards = sym (take-append-drop i cards) ∙ ap (λ l. take i cards ++ l) here in
    ap (λ (o : Option ExtensionSpec). option_map_or bad_size_of_tables o false) (sym on)
    ∙ or_first (option_map_or bad_size_of_tables (extension_on c.spec) false) (option_map_or bad_size_of_field (input_field_on c.spec) false)
    (or_first _ (option_map_or bad_size_of_result (calculation_on c.spec) false) (kept (take i cards) c (drop (i + 1) cards) split))

-- ---- one table more

abbrev pub seen : List (List ℕ × TableData) → List Loaded
seen es = map (λ e. (e.0, values_on e.1)) es

some_mapped : {X Y : Type 0} (g : X → Y) (o : Option X) → is_some (option_map g o) ≡ is_some o
some_mapped g None = refl
some_mapped g (Some x) = refl

pub no_some : {X : Type 0} (o : Option X) → is_some o ≡ false → o ≡ None
no_some None e = refl
no_some (Some x) e = cc

module _ (es : List (List ℕ × TableData)) (now : List Loaded) (view : seen es ≡ now) where
  pub known_data : (key : List ℕ) (values : List Value) → is_some (lookup (pointwise nat_eq key) es) ≡ true → HasSameData now (now ++ (key, values) ∷ [])
  known_data key values there name =
      let known : is_some (loaded_values key now) ≡ true =
      ap (λ (l : List Loaded). is_some (loaded_values key l)) (sym view) ∙ ap (λ (o : Option (List Value)). is_some o) (lookup-map_values values_on (pointwise nat_eq key) es)
      ∙ some_mapped values_on (lookup (pointwise nat_eq key) es) ∙ there in
      known_stays (pointwise nat_eq) nat_list_eq_equiv now name key values known ∙ sym (lookup-append (pointwise nat_eq name) now ((key, values) ∷ []))

  pub new_data : (new : List (List ℕ × TableData)) (key : List ℕ) (t : TableData) → new ≡ es ++ (key, t) ∷ [] → HasSameData (seen new) (now ++ (key, values_on t) ∷ [])
  new_data new key t put name =
      ap (λ (l : List (List ℕ × TableData)). loaded_values name (seen l)) put
      ∙ ap (loaded_values name) (map-append (λ (e : List ℕ × TableData). (e.0, values_on e.1)) es ((key, t) ∷ []))
      ∙ ap (λ l. loaded_values name (l ++ (key, values_on t) ∷ [])) view

  -- what a field holds by them
  pub field_found : (name : List ℕ) (form : FieldForm) (o : Option TableData) → o ≡ lookup (pointwise nat_eq name) es
      → unwrap_or (option_map values_on o) (replicate form.entries (first_of_kind form.kind form.length)) ≡ field_values now (name, form)
  field_found name form o found =
      let else_empty = λ (p : Option (List Value)). unwrap_or p (replicate form.entries (first_of_kind form.kind form.length)) in
      ap (λ (p : Option TableData). else_empty (option_map values_on p)) found ∙ ap else_empty (sym (lookup-map_values values_on (pointwise nat_eq name) es))
      ∙ ap (λ l. else_empty (loaded_values name l)) view

-- ---- the tables of a card

module _ (e : ExtensionSpec) (per_card : ℕ) (deck : List SpecCard) where
  abbrev table_data : TableSpec → ℕ → ℕ → Loaded
  table_data t width from = (t.name, map (entry_value t) (data_entries e.entries per_card width from t.length (followers data_role deck)))

  pub one_table : (width : ℕ) (old new : List Loaded) → width ≡ data_columns e → e.alternating ≡ None → HasSameData new (old ++ table_data e.table width 0 ∷ [])
      → HasSameData new (old ++ tables_after e per_card deck)
  one_table width old new columns none same name =
      same name
      ∙ ap (λ w. loaded_values name (old ++ table_data e.table w 0 ∷ [])) columns
      ∙ ap (λ (o : Option TableSpec). loaded_values name (old ++ tables_loaded e per_card (followers data_role deck) 0 (e.table ∷ option_to_list o))) (sym none)

  pub two_tables : (t : TableSpec) (width : ℕ) (old first new : List Loaded) → width ≡ data_columns e → e.alternating ≡ Some t → HasSameData first (old ++ table_data e.table width 0 ∷ [])
      → HasSameData new (first ++ table_data t width e.table.length ∷ []) → HasSameData new (old ++ tables_after e per_card deck)
  two_tables t width old first new columns alternating same_first same name =
      let from : e.table.length ≡ 0 + e.table.length = omega arith in
      same name ∙ same_after first (old ++ table_data e.table width 0 ∷ []) (table_data t width e.table.length ∷ []) same_first name
      ∙ ap (loaded_values name) (append_assoc old (table_data e.table width 0 ∷ []) (table_data t width e.table.length ∷ []))
      ∙ ap (λ w. loaded_values name (old ++ table_data e.table w 0 ∷ table_data t w e.table.length ∷ [])) columns
      ∙ ap (λ k. loaded_values name (old ++ table_data e.table (data_columns e) 0 ∷ table_data t (data_columns e) k ∷ [])) from
      ∙ ap (λ (o : Option TableSpec). loaded_values name (old ++ tables_loaded e per_card (followers data_role deck) 0 (e.table ∷ option_to_list o))) (sym alternating)

  pub takes_deck : (cards : List SpecCard) (old new : List Loaded) → e.entries_per_card ≡ Some per_card → decks cards ≡ followers data_role deck ∷ decks deck
      → HasSameData new (old ++ tables_after e per_card deck) → TakesDeck e old cards new deck
  takes_deck cards old new wants first same es name =
      ap (λ ds. loaded_values name (old ++ with_deck e e.entries_per_card ds (λ rest. all_loaded es rest))) first
      ∙ ap (λ o. loaded_values name (old ++ with_deck e o (followers data_role deck ∷ decks deck) (λ rest. all_loaded es rest))) wants
      ∙ ap (loaded_values name) (sym (append_assoc old (tables_after e per_card deck) (all_loaded es (decks deck))))
      ∙ sym (same_after new (old ++ tables_after e per_card deck) (all_loaded es (decks deck)) same name)
