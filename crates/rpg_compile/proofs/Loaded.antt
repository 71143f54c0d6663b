-- Tables with data: what is loaded fits the form of its name.
use Rattle.std.proofs.Common.{◌≡◌, ℕ, zero, suc, ◌+◌, ◌*◌, ◌<◌, ◌≤◌, Bool, true, false, not, ◌&&◌, ◌||◌, List, [], ◌∷◌, ◌++◌, map, length, drop, slice_get, sum_by, Option, None, Some, refl, sym, ap, ◌∙◌, subst, arith, append_assoc, add-one}
use Rattle.std.proofs.lemmas.Bool.{and_from, eqb-false, eqb-true, ltb-false, not-false, or_parts}
use Rattle.std.proofs.lemmas.Grind.{div_ceil_times}
use Rattle.std.proofs.lemmas.List.Sums.{sum_by-cons}
use Rattle.std.proofs.lemmas.Option.{slice_get-map}
use Rattle.std.specs.List.{cons_option, list_all}
use Rattle.std.specs.Option.{ForSome, option_map_or}
use Rattle.std.specs.Prelude.{is_some, ◌==◌, nat_lt}
use Rattle.rpg_cards.specs.Plain.{Each}
use Rattle.rpg_cards.specs.Cards.{data_on, extension_on}
use Rattle.rpg_cards.specs.Groups.{Group, data_card_role, data_role, followers, followers_with, groups, groups_from, opening, role_on}
use Rattle.rpg_cards.specs.Names.{definition_in, definitions_on, form_of_name, table_form, tables_on}
use Rattle.rpg_cards.specs.declared.names.Defined.TheVariants.{Valid}
use Rattle.rpg_cards.specs.declared.names.Definition.{Definition}
use Rattle.rpg_cards.specs.declared.spec_card.SpecCard.{SpecCard}
use Rattle.rpg_compile_program.proofs.Each.{each_append}
use Rattle.rpg_program.specs.declared.form.FieldForm.{FieldForm}
use Rattle.rpg_faults_data.proofs.DeckLemmas.{no_more, one_more}
use Rattle.rpg_faults_data.specs.Data.{bad_data, bad_deck, bad_tables, breaks_data, cards_for, data_columns, data_entries, deck_at, has_forms, wanted, expects_data}
use Rattle.rpg_program.specs.Kept.{AreEntriesOf}
use Rattle.rpg_sheet_specs.specs.declared.data.DataSpec.{DataSpec}
use Rattle.rpg_sheet_specs.specs.declared.data.DataSpec.TheVariants as deck
use Rattle.rpg_sheet_specs.specs.declared.extension.ExtensionSpec.{ExtensionSpec}
use Rattle.rpg_sheet_specs.specs.declared.extension.TableSpec.{TableSpec}
use Rattle.rpg_sheet_specs.specs.declared.spec.Spec.{Spec}
use Rattle.rpg_sheet_specs.specs.declared.spec.Spec.TheVariants as spec
use Rattle.rpg_compile_program.specs.Defined.{DefinesForm, IsForm}
use Rattle.rpg_compile_program.proofs.Lists.{Seen, or_first}
use Rattle.rpg_compile_program.proofs.Redefined.{HasName}
use Rattle.rpg_compile_program.specs.Data.{Loaded, all_loaded, decks, entry_value, extensions, loaded, tables_loaded, with_deck}
use Rattle.rpg_compile_program.specs.Ranges.{AreCards, IsData, IsDataText, IsInRange}
use Rattle.rpg_compile.proofs.Entries.{FitsText, table_fits}

-- a name with values that fit its form
pub record IsLoaded (cards : List SpecCard) (l : Loaded) : Type 0 where
  pub form : FieldForm
  pub named : form_of_name l.0 cards ≡ Valid form
  pub fits : AreEntriesOf form l.1

-- ---- the cards of data hold characters

data_fits : (s : Spec) → IsInRange s → ForSome (data_on s) IsData
data_fits (spec.Header x) h d e = absurd cc
data_fits (spec.File x) h d e = absurd cc
data_fits (spec.Extension x) h d e = absurd cc
data_fits (spec.Form x) h d e = absurd cc
data_fits (spec.Input x) h d e = absurd cc
data_fits (spec.Calculation x) h d e = absurd cc
data_fits (spec.Output x) h d e = absurd cc
data_fits (spec.Data x) h d e = let same : x ≡ d = cc in subst IsData same h

texts_fit : (cards : List SpecCard) → AreCards cards → Each IsDataText (followers data_role cards)
texts_fit [] h = tt
texts_fit (c ∷ cs) h = by (data_on c.spec) (data_fits c.spec h.0) (texts_fit cs h.1)
  where
    by : (o : Option DataSpec) → ForSome o IsData → Each IsDataText (followers data_role cs) → Each IsDataText (followers_with (role_on data_card_role o) (followers data_role cs))
    by None h later = later
    by (Some deck.Begin) h later = tt
    by (Some (deck.Card text)) h later = (h (deck.Card text) refl, later)

-- the decks from a file on
abbrev decks_from : Option (List ℕ) → List SpecCard → List (List (List ℕ))
decks_from file cards = map (λ (g : Group (Unit {0}) (List ℕ)). g.followers) (groups_from data_role file cards)

decks_fit : (file : Option (List ℕ)) (cards : List SpecCard) → AreCards cards → Each (Each IsDataText) (decks_from file cards)
decks_fit file [] h = tt
decks_fit file (c ∷ cs) h = by (data_on c.spec) (λ own. decks_fit own cs h.1)
  where
    by : (o : Option DataSpec) → ((own : Option (List ℕ)) → Each (Each IsDataText) (decks_from own cs))
        → Each (Each IsDataText) (map (λ (g : Group (Unit {0}) (List ℕ)). g.followers) (opening (role_on data_card_role o) file (followers data_role cs) (λ own. groups_from data_role own cs)))
    by None later = later file
    by (Some deck.Begin) later = (texts_fit cs h.1, later file)
    by (Some (deck.Card text)) later = later file

-- ---- the tables of a card

-- a deck that has the cards that its tables need
record IsDeck (e : ExtensionSpec) (per_card : ℕ) (texts : List (List ℕ)) : Type 0 where
  room : per_card * data_columns e ≤ 80
  enough : e.entries ≤ length texts * per_card
  fit : Each IsDataText texts

valid_deck : (e : ExtensionSpec) (per_card : ℕ) (texts : List (List ℕ)) → bad_deck e per_card texts ≡ false → Each IsDataText texts → IsDeck e per_card texts
valid_deck e per_card texts valid fit =
    let some = or_parts (per_card == 0) (nat_lt 80 (per_card * data_columns e) || (not (length texts == cards_for e.entries per_card) || bad_tables e per_card texts 0 (tables_on e))) valid in
    let fits = or_parts (nat_lt 80 (per_card * data_columns e)) (not (length texts == cards_for e.entries per_card) || bad_tables e per_card texts 0 (tables_on e)) some.1 in
    let count = or_parts (not (length texts == cards_for e.entries per_card)) (bad_tables e per_card texts 0 (tables_on e)) fits.1 in
    let as_many : length texts ≡ cards_for e.entries per_card = eqb-true (length texts) (cards_for e.entries per_card) (not-false _ count.0) in
    let positive : 0 < per_card = above (eqb-false per_card 0 some.0) in
    record {
      room = ltb-false 80 (per_card * data_columns e) fits.0;
      enough = subst (λ n. e.entries ≤ n * per_card) (sym as_many) (div_ceil_times e.entries per_card positive).0;
      fit = fit;
    }
  where
    above : (per_card ≡ 0 → ⊥) → 0 < per_card
    above none = omega arith

-- a definition that has the form of its name
record IsOfName (cards : List SpecCard) (e : ExtensionSpec) (t : TableSpec) : Type 0 where
  name : HasName cards (definition_in e t)
  form : IsForm (table_form e.entries t)

table_loaded : (cards : List SpecCard) → FitsText → (e : ExtensionSpec) (per_card : ℕ) (texts : List (List ℕ)) (from : ℕ) (t : TableSpec) → IsDeck e per_card texts → IsOfName cards e t
    → from + t.length ≤ data_columns e → IsLoaded cards (t.name, map (entry_value t) (data_entries e.entries per_card (data_columns e) from t.length texts))
table_loaded cards spelled e per_card texts from t valid of_name inside = by (table_form e.entries t) refl of_name.form
  where
    by : (o : Option FieldForm) → table_form e.entries t ≡ o → IsForm o → IsLoaded cards (t.name, map (entry_value t) (data_entries e.entries per_card (data_columns e) from t.length texts))
    by None is h = absurd h
    by (Some form) is h = record {
      form = form;
      named = of_name.name form is;
      fits = table_fits spelled e.entries per_card (data_columns e) from t form texts is valid.room inside valid.enough valid.fit;
    }

tables_fit : (cards : List SpecCard) → FitsText → (e : ExtensionSpec) (per_card : ℕ) (texts : List (List ℕ)) (from : ℕ) (ts : List TableSpec) → IsDeck e per_card texts → Each (IsOfName cards e) ts
    → from + sum_by (λ (t : TableSpec). t.length) ts ≤ data_columns e → Each (IsLoaded cards) (tables_loaded e per_card texts from ts)
tables_fit cards spelled e per_card texts from [] valid named inside = tt
tables_fit cards spelled e per_card texts from (t ∷ ts) valid named inside =
    let split = sum_by-cons (λ (t : TableSpec). t.length) t ts in
    let here : from + t.length ≤ data_columns e = omega arith in
    let later : from + t.length + sum_by (λ (t : TableSpec). t.length) ts ≤ data_columns e = omega arith in
    (table_loaded cards spelled e per_card texts from t valid named.0 here, tables_fit cards spelled e per_card texts (from + t.length) ts valid named.1 later)

-- ---- what a card defines

each_front : {X : Type 0} (P : X → Type 0) (xs ys : List X) → Each P (xs ++ ys) → Each P xs
each_front P [] ys h = tt
each_front P (x ∷ xs) ys h = (h.0, each_front P xs ys h.1)

of_tables : (cards : List SpecCard) (e : ExtensionSpec) (ts : List TableSpec) → Each (HasName cards) (map (definition_in e) ts) → Each DefinesForm (map (definition_in e) ts) → Each (IsOfName cards e) ts
of_tables cards e [] named formed = tt
of_tables cards e (t ∷ ts) named formed = (record { name = named.0; form = formed.0 }, of_tables cards e ts named.1 formed.1)

tables_named : (cards : List SpecCard) (s : Spec) (e : ExtensionSpec) → extension_on s ≡ Some e → Each (HasName cards) (definitions_on s) → Each DefinesForm (definitions_on s) → Each (IsOfName cards e) (tables_on e)
tables_named cards (spec.Header x) e is named formed = absurd cc
tables_named cards (spec.File x) e is named formed = absurd cc
tables_named cards (spec.Extension x) e is named formed =
    let same : x ≡ e = cc in
    subst (λ (y : ExtensionSpec). Each (IsOfName cards y) (tables_on y)) same (of_tables cards x (tables_on x) (front (HasName cards) named) (front DefinesForm formed))
  where
    front : (P : Definition → Type 0) → Each P (definitions_on (spec.Extension x)) → Each P (map (definition_in x) (tables_on x))
    front P h = let ds = map (definition_in x) (tables_on x) in each_front P ds [] (each_front P (ds ++ []) [] (each_front P ((ds ++ []) ++ []) [] h))
tables_named cards (spec.Form x) e is named formed = absurd cc
tables_named cards (spec.Input x) e is named formed = absurd cc
tables_named cards (spec.Calculation x) e is named formed = absurd cc
tables_named cards (spec.Output x) e is named formed = absurd cc
tables_named cards (spec.Data x) e is named formed = absurd cc

have_forms : (cards : List SpecCard) (e : ExtensionSpec) (ts : List TableSpec) → Each (IsOfName cards e) ts → list_all (λ t. is_some (table_form e.entries t)) ts ≡ true
have_forms cards e [] h = refl
have_forms cards e (t ∷ ts) h = and_from (is_some (table_form e.entries t)) (list_all (λ t. is_some (table_form e.entries t)) ts) (there (table_form e.entries t) h.0.form) (have_forms cards e ts h.1)
  where
    there : (o : Option FieldForm) → IsForm o → is_some o ≡ true
    there None h = absurd h
    there (Some form) h = refl

-- ---- decks, one after the other

drop_got : {X : Type 0} (n : ℕ) (xs : List X) (x : X) → slice_get xs n ≡ Some x → drop n xs ≡ x ∷ drop (suc n) xs
drop_got zero [] x e = absurd cc
drop_got zero (y ∷ ys) x e = let same : y ≡ x = cc in ap (λ z. z ∷ ys) same
drop_got (suc n) [] x e = absurd cc
drop_got (suc n) (y ∷ ys) x e = drop_got n ys x e

each_got : {X : Type 0} (P : X → Type 0) (n : ℕ) (xs : List X) (x : X) → slice_get xs n ≡ Some x → Each P xs → P x
each_got P zero [] x e h = absurd cc
each_got P zero (y ∷ ys) x e h = let same : y ≡ x = cc in subst P same h.0
each_got P (suc n) [] x e h = absurd cc
each_got P (suc n) (y ∷ ys) x e h = each_got P n ys x e h.1

and_second : (a b : Bool) → a ≡ true → (a && b) ≡ false → b ≡ false
and_second true b t e = e
and_second false b t e = absurd cc

-- ---- all cards

module _ (cards : List SpecCard) (spelled : FitsText) (ranges : AreCards cards)
    (kept : Seen cards (λ before c after. breaks_data cards before c ≡ false))
    (named : Seen cards (λ before c after. Each (HasName cards) (definitions_on c.spec)))
    (formed : Seen cards (λ before c after. Each DefinesForm (definitions_on c.spec))) where
  -- the deck that a card takes
  record TakesDeck (n : ℕ) (e : ExtensionSpec) (per_card : ℕ) : Type 0 where
    texts : List (List ℕ)
    is : slice_get (decks cards) n ≡ Some texts
    valid : IsDeck e per_card texts

  takes_deck : (before : List SpecCard) (e : ExtensionSpec) (per_card : ℕ) → Each (IsOfName cards e) (tables_on e) → bad_data cards before e (Some per_card) ≡ false → TakesDeck (wanted before) e per_card
  takes_deck before e per_card of_name valid = by (deck_at (wanted before) cards) (slice_get-map (λ (g : Group (Unit {0}) (List ℕ)). g.followers) (groups data_role cards) (wanted before)) valid
    where
      by : (o : Option (List (List ℕ))) → slice_get (decks cards) (wanted before) ≡ o → option_map_or (λ texts. has_forms e && bad_deck e per_card texts) o true ≡ false → TakesDeck (wanted before) e per_card
      by None is h = absurd cc
      by (Some texts) is h = record {
        texts = texts;
        is = is;
        valid = valid_deck e per_card texts (and_second (has_forms e) (bad_deck e per_card texts) (have_forms cards e (tables_on e) of_name) h) (each_got (Each IsDataText) (wanted before) (decks cards) texts is (decks_fit None cards ranges));
      }

  -- what is loaded for cards after others
  abbrev Later : List SpecCard → List SpecCard → Type 0
  Later before after = Each (IsLoaded cards) (all_loaded (extensions after) (drop (wanted before) (decks cards)))

  with_card : (before : List SpecCard) (c : SpecCard) (after : List SpecCard) → cards ≡ before ++ c ∷ after → Later (before ++ c ∷ []) after → Later before (c ∷ after)
  with_card before c after split later = by_card (extension_on c.spec) refl
    where
      passed : expects_data c ≡ false → Later before after
      passed wants = subst (λ n. Each (IsLoaded cards) (all_loaded (extensions after) (drop n (decks cards)))) (no_more before c wants) later

      by_count : (e : ExtensionSpec) → extension_on c.spec ≡ Some e → (o : Option ℕ) → e.entries_per_card ≡ o → bad_data cards before e o ≡ false
          → Each (IsLoaded cards) (with_deck e o (drop (wanted before) (decks cards)) (λ rest. all_loaded (extensions after) rest))
      by_count e is None none valid = passed (ap (λ o. option_map_or (λ (e : ExtensionSpec). is_some e.entries_per_card) o false) is ∙ ap (λ (o : Option ℕ). is_some o) none)
      by_count e is (Some per_card) some valid =
          let of_name = tables_named cards c.spec e is (named before c after split) (formed before c after split) in
          let takes = takes_deck before e per_card of_name valid in
          let wants : expects_data c ≡ true = ap (λ o. option_map_or (λ (e : ExtensionSpec). is_some e.entries_per_card) o false) is ∙ ap (λ (o : Option ℕ). is_some o) some in
          let next : wanted (before ++ c ∷ []) ≡ suc (wanted before) = one_more before c wants ∙ add-one (wanted before) in
          let here : Each (IsLoaded cards) (tables_loaded e per_card takes.texts 0 (tables_on e)) = tables_fit cards spelled e per_card takes.texts 0 (tables_on e) takes.valid of_name (omega arith) in
          let following = subst (λ n. Each (IsLoaded cards) (all_loaded (extensions after) (drop n (decks cards)))) next later in
          subst (λ ds. Each (IsLoaded cards) (with_deck e (Some per_card) ds (λ rest. all_loaded (extensions after) rest))) (sym (drop_got (wanted before) (decks cards) takes.texts takes.is))
          (each_append (IsLoaded cards) (tables_loaded e per_card takes.texts 0 (tables_on e)) (all_loaded (extensions after) (drop (suc (wanted before)) (decks cards))) here following)

      by_card : (o : Option ExtensionSpec) → extension_on c.spec ≡ o → Each (IsLoaded cards) (all_loaded (cons_option o (extensions after)) (drop (wanted before) (decks cards)))
      by_card None is = passed (ap (λ o. option_map_or (λ (e : ExtensionSpec). is_some e.entries_per_card) o false) is)
      by_card (Some e) is =
          by_count e is e.entries_per_card refl
          (subst (λ o. option_map_or (λ (x : ExtensionSpec). bad_data cards before x x.entries_per_card) o false ≡ false) is
          (or_first (option_map_or (λ (x : ExtensionSpec). bad_data cards before x x.entries_per_card) (extension_on c.spec) false) _ (kept before c after split)))

  loaded_from : (before after : List SpecCard) → cards ≡ before ++ after → Later before after
  loaded_from before [] split = tt
  loaded_from before (c ∷ after) split = with_card before c after split (loaded_from (before ++ c ∷ []) after (split ∙ sym (append_assoc before (c ∷ []) after)))

  pub loaded_fit : Each (IsLoaded cards) (loaded cards)
  loaded_fit = loaded_from [] cards refl
