-- A card has a cause exactly if it breaks the rules of table data.
use Rattle.std.proofs.Common.{◌≡◌, ℕ, zero, suc, ◌+◌, ◌-◌, ◌*◌, ◌==◌, Bool, true, false, not, cond, ◌&&◌, ◌||◌, List, [], ◌∷◌, ◌++◌, map, length, take, Option, None, Some, refl, sym, ap, ◌∙◌, arith}
use Rattle.std.proofs.lemmas.List.{length-map, map-append, take-map}
use Rattle.std.proofs.lemmas.List.Sums.{sum_by-cons}
use Rattle.std.proofs.lemmas.Simd.{map-map}
use Rattle.std.specs.List.{flat_map, range_with_len, slice_get}
use Rattle.std.specs.Option.{is_some, option_and_then, option_map, option_map_or, option_or}
use Rattle.std.specs.Prelude.{count_by, nat_le, nat_lt}
use Rattle.rpg_cards.specs.Cards.{data_on, extension_on}
use Rattle.rpg_cards.specs.Groups.{Group, data_card_role, data_role, followers, followers_with, group_count, groups_from, opening, role_on}
use Rattle.rpg_cards.specs.Names.{tables_on}
use Rattle.rpg_cards.specs.declared.spec_card.SpecCard.{SpecCard}
use Rattle.rpg_faults_data.specs.Causes.{DataCard, PlacedEntry, begins_table_data, after_deck_begin, data_cause, deck_cards, entry_cause, entry_fault, first_wrong, is_deck_begin, missing_deck, need_of, of_after, of_data, of_deck, of_extension, of_table, of_tables, placed_entries, placed_entry_on, with_data_card, wrong_entry}
use Rattle.rpg_faults_data.specs.declared.cause.DataCause.TheVariants as cause
use Rattle.rpg_faults_data.specs.declared.wrong_entry.EntryFault.TheVariants.{Lower, NoNumber}
use Rattle.rpg_faults_data.proofs.DeckLemmas.{above_zero}
use Rattle.rpg_faults_data.proofs.EntryLemmas.{any_wrong-none}
use Rattle.rpg_faults_data.specs.Data.{bad_data, bad_deck, bad_table_data, bad_tables, breaks_data, cards_for, data_columns, data_entries, deck_at, entries_on, has_forms, has_table, is_bad, is_lower, is_unwanted, wanted}
use Rattle.rpg_faults_data.specs.Entries.{any_wrong, is_wrong}
use Rattle.rpg_sheet_specs.specs.declared.data.DataSpec.{DataSpec}
use Rattle.rpg_sheet_specs.specs.declared.data.DataSpec.TheVariants as deck
use Rattle.rpg_sheet_specs.specs.declared.extension.ExtensionSpec.{ExtensionSpec}
use Rattle.rpg_sheet_specs.specs.declared.extension.TableSpec.{TableSpec}

if_some : {C : Type 0} (b : Bool) (x : C) → is_some (cond b (Some x) None) ≡ b
if_some true x = refl
if_some false x = refl

or_some : {C : Type 0} (a b : Option C) → is_some (option_or a b) ≡ (is_some a || is_some b)
or_some None b = refl
or_some (Some x) b = refl

mapped_some : {X C : Type 0} (f : X → C) (o : Option X) → is_some (option_map f o) ≡ is_some o
mapped_some f None = refl
mapped_some f (Some x) = refl

-- ---- entries

abbrev text_of : PlacedEntry → List ℕ
text_of e = e.text

abbrev texts : List DataCard → List (List ℕ)
texts ds = map (λ (d : DataCard). d.text) ds

first_of_two : {X : Type 0} (a b : Bool) (x y : X) → is_some (cond a (Some x) (cond b (Some y) None)) ≡ (a || b)
first_of_two true b x y = refl
first_of_two false true x y = refl
first_of_two false false x y = refl

wrong_some : (t : TableSpec) (k : ℕ) (o : Option (List ℕ)) (es : List PlacedEntry) → is_some (first_wrong t k o es) ≡ any_wrong t o (map text_of es)
wrong_some t k o [] = refl
wrong_some t k o (e ∷ es) =
    let low = t.ascending && option_map_or (λ b. is_lower t.decimals e.text b) o false in
    or_some (wrong_entry t k o e) (first_wrong t (k + 1) (Some e.text) es)
    ∙ ap (λ b. b || is_some (first_wrong t (k + 1) (Some e.text) es)) (mapped_some (entry_cause t k e) (entry_fault t o e.text) ∙ first_of_two (is_bad t.decimals e.text) low NoNumber Lower)
    ∙ ap (λ b. is_wrong t o e.text || b) (wrong_some t (k + 1) (Some e.text) es)

module _ (per_card width from len : ℕ) where
  all_texts : (ds : List DataCard)
      → map text_of (flat_map (λ d. map (placed_entry_on width from len d) (range_with_len 0 per_card)) ds) ≡ flat_map (entries_on per_card width from len) (texts ds)
  all_texts [] = refl
  all_texts (d ∷ ds) =
      map-append text_of (map (placed_entry_on width from len d) (range_with_len 0 per_card)) (flat_map (λ c. map (placed_entry_on width from len c) (range_with_len 0 per_card)) ds)
      ∙ ap (λ l. l ++ map text_of (flat_map (λ c. map (placed_entry_on width from len c) (range_with_len 0 per_card)) ds)) (map-map text_of (placed_entry_on width from len d) (range_with_len 0 per_card))
      ∙ ap (λ l. entries_on per_card width from len d.text ++ l) (all_texts ds)

  placed_texts : (n : ℕ) (ds : List DataCard) → map text_of (placed_entries n per_card width from len ds) ≡ data_entries n per_card width from len (texts ds)
  placed_texts n ds =
      sym (take-map text_of n (flat_map (λ d. map (placed_entry_on width from len d) (range_with_len 0 per_card)) ds)) ∙ ap (take n) (all_texts ds)

table_some : (e : ExtensionSpec) (per_card : ℕ) (ds : List DataCard) (from : ℕ) (t : TableSpec)
    → is_some (of_table e per_card ds from t) ≡ bad_table_data t (data_entries e.entries per_card (data_columns e) from t.length (texts ds))
table_some e per_card ds from t =
    wrong_some t 1 None (placed_entries e.entries per_card (data_columns e) from t.length ds)
    ∙ ap (any_wrong t None) (placed_texts per_card (data_columns e) from t.length e.entries ds)
    ∙ sym (any_wrong-none t (data_entries e.entries per_card (data_columns e) from t.length (texts ds)))

tables_some : (e : ExtensionSpec) (per_card : ℕ) (ds : List DataCard) (from : ℕ) (ts : List TableSpec) → is_some (of_tables e per_card ds from ts) ≡ bad_tables e per_card (texts ds) from ts
tables_some e per_card ds from [] = refl
tables_some e per_card ds from (t ∷ ts) =
    or_some (of_table e per_card ds from t) (of_tables e per_card ds (from + t.length) ts)
    ∙ ap (λ b. b || is_some (of_tables e per_card ds (from + t.length) ts)) (table_some e per_card ds from t)
    ∙ ap (λ b. bad_table_data t (data_entries e.entries per_card (data_columns e) from t.length (texts ds)) || b) (tables_some e per_card ds (from + t.length) ts)

-- ---- decks

deck_texts : (cards : List SpecCard) → texts (deck_cards cards) ≡ followers data_role cards
deck_texts [] = refl
deck_texts (c ∷ cs) = by (data_on c.spec) (deck_texts cs)
  where
    by : (x : Option DataSpec) → texts (deck_cards cs) ≡ followers data_role cs → texts (with_data_card c.number x (deck_cards cs)) ≡ followers_with (role_on data_card_role x) (followers data_role cs)
    by None e = e
    by (Some deck.Begin) e = refl
    by (Some (deck.Card text)) e = ap (λ l. text ∷ l) e

pub length_deck : (cards : List SpecCard) → length (followers data_role cards) ≡ length (deck_cards cards)
length_deck cards = ap length (sym (deck_texts cards)) ∙ length-map (deck_cards cards) (λ (d : DataCard). d.text)

first_of_four : {X C : Type 0} (a b c : Bool) (x y z : X) (f : C → X) (o : Option C)
    → is_some (cond a (Some x) (cond b (Some y) (cond c (Some z) (option_map f o)))) ≡ (a || (b || (c || is_some o)))
first_of_four true b c x y z f o = refl
first_of_four false true c x y z f o = refl
first_of_four false false true x y z f o = refl
first_of_four false false false x y z f o = mapped_some f o

deck_some : (e : ExtensionSpec) (per_card : ℕ) (ds : List DataCard) → is_some (of_deck e per_card ds) ≡ bad_deck e per_card (texts ds)
deck_some e per_card ds =
    let none = per_card == 0 in
    let wide = nat_lt 80 (per_card * data_columns e) in
    first_of_four none wide (not (length ds == cards_for e.entries per_card)) cause.NonePerCard (cause.TooWide per_card (data_columns e))
    (cause.OtherCards (need_of e per_card) (length ds)) cause.Entry (of_tables e per_card ds 0 (tables_on e))
    ∙ ap (λ n. none || (wide || (not (n == cards_for e.entries per_card) || is_some (of_tables e per_card ds 0 (tables_on e))))) (sym (length-map ds (λ (d : DataCard). d.text)))
    ∙ ap (λ b. none || (wide || (not (length (texts ds) == cards_for e.entries per_card) || b))) (tables_some e per_card ds 0 (tables_on e))

following_is : (n : ℕ) (cards : List SpecCard) → deck_at n cards ≡ option_map (followers data_role) (after_deck_begin n cards)
following_is n [] = refl
following_is n (c ∷ cs) = by (data_on c.spec) n (λ m. following_is m cs)
  where
    by : (x : Option DataSpec) (n : ℕ) → ((m : ℕ) → deck_at m cs ≡ option_map (followers data_role) (after_deck_begin m cs))
        → option_map (λ (g : Group (Unit {0}) (List ℕ)). g.followers) (slice_get (opening (role_on data_card_role x) None (followers data_role cs) (λ own. groups_from data_role own cs)) n)
        ≡ option_map (followers data_role) (cond (option_map_or is_deck_begin x false) (cond (n == 0) (Some cs) (after_deck_begin (n - 1) cs)) (after_deck_begin n cs))
    by None n e = e n
    by (Some (deck.Card text)) n e = e n
    by (Some deck.Begin) zero e = refl
    by (Some deck.Begin) (suc m) e =
        let less : m ≡ suc m - 1 = omega arith in
        e m ∙ ap (λ k. option_map (followers data_role) (after_deck_begin k cs)) less
        ∙ ap (λ b. option_map (followers data_role) (cond b (Some cs) (after_deck_begin (suc m - 1) cs))) (sym (above_zero m))

-- ---- E cards

only_if : {X : Type 0} (b : Bool) (o : Option X) (bad : Bool) → is_some o ≡ bad → is_some (cond b o None) ≡ (b && bad)
only_if true o bad e = e
only_if false o bad e = refl

extension_some : (cards before : List SpecCard) (e : ExtensionSpec) (p : Option ℕ) → is_some (of_extension cards before e p) ≡ bad_data cards before e p
extension_some cards before e None = if_some (has_table e) cause.NoData
extension_some cards before e (Some per_card) =
    by (after_deck_begin (wanted before) cards)
    ∙ ap (λ o. option_map_or (λ ts. has_forms e && bad_deck e per_card ts) o true) (sym (following_is (wanted before) cards))
  where
    by : (o : Option (List SpecCard))
        → is_some (option_map_or (of_after e per_card) o (Some (missing_deck e per_card))) ≡ option_map_or (λ ts. has_forms e && bad_deck e per_card ts) (option_map (followers data_role) o) true
    by None = refl
    by (Some following) =
        only_if (has_forms e) (of_deck e per_card (deck_cards following)) (bad_deck e per_card (followers data_role following))
        (deck_some e per_card (deck_cards following) ∙ ap (bad_deck e per_card) (deck_texts following))

-- ---- `**` cards

begun_is : (cards : List SpecCard) → group_count data_role cards ≡ count_by begins_table_data cards
begun_is [] = refl
begun_is (c ∷ cs) = by (data_on c.spec) (begun_is cs) ∙ sym (sum_by-cons (λ (d : SpecCard). cond (begins_table_data d) 1 0) c cs)
  where
    none : (n : ℕ) → n ≡ 0 + n
    none n = omega arith

    one : (n : ℕ) → suc n ≡ 1 + n
    one n = omega arith

    by : (x : Option DataSpec) → group_count data_role cs ≡ count_by begins_table_data cs
        → length (opening (role_on data_card_role x) None (followers data_role cs) (λ own. groups_from data_role own cs)) ≡ cond (option_map_or is_deck_begin x false) 1 0 + count_by begins_table_data cs
    by None e = e ∙ none (count_by begins_table_data cs)
    by (Some (deck.Card text)) e = e ∙ none (count_by begins_table_data cs)
    by (Some deck.Begin) e = ap suc e ∙ one (count_by begins_table_data cs)

data_some : (cards before : List SpecCard) (o : Option DataSpec) → is_some (option_and_then (of_data cards before) o) ≡ option_map_or (is_unwanted cards before) o false
data_some cards before None = refl
data_some cards before (Some (deck.Card text)) = refl
data_some cards before (Some deck.Begin) =
    if_some (nat_le (wanted cards) (count_by begins_table_data before)) (cause.Spare (count_by begins_table_data before + 1) (wanted cards))
    ∙ ap (nat_le (wanted cards)) (sym (begun_is before))

card_some : (cards before : List SpecCard) (o : Option ExtensionSpec)
    → is_some (option_and_then (λ (e : ExtensionSpec). of_extension cards before e e.entries_per_card) o) ≡ option_map_or (λ (e : ExtensionSpec). bad_data cards before e e.entries_per_card) o false
card_some cards before None = refl
card_some cards before (Some e) = extension_some cards before e e.entries_per_card

pub data_rule : (cards before : List SpecCard) (c : SpecCard) → is_some (data_cause cards before c) ≡ breaks_data cards before c
data_rule cards before c =
    or_some (option_and_then (λ (e : ExtensionSpec). of_extension cards before e e.entries_per_card) (extension_on c.spec)) (option_and_then (of_data cards before) (data_on c.spec))
    ∙ ap (λ b. b || is_some (option_and_then (of_data cards before) (data_on c.spec))) (card_some cards before (extension_on c.spec))
    ∙ ap (λ b. option_map_or (λ (e : ExtensionSpec). bad_data cards before e e.entries_per_card) (extension_on c.spec) false || b) (data_some cards before (data_on c.spec))
