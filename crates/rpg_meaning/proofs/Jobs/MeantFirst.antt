-- The compiler gives fields the first values that the cards mean.
use Rattle.std.proofs.Common.{◌≡◌, ℕ, zero, suc, ◌+◌, ◌-◌, ◌*◌, ◌<◌, ◌≤◌, ℤ, pos, Bool, true, false, cond, List, [], ◌∷◌, ◌++◌, map, length, slice_get, Option, None, Some, refl, sym, ap, ◌∙◌, arith, nat_lt, ltb-true}
use Rattle.std.proofs.lemmas.Bool.{ltb-false}
use Rattle.std.proofs.lemmas.List.{length-map}
use Rattle.std.proofs.lemmas.List.FromFn.{length-range_with_len}
use Rattle.std.proofs.lemmas.Option.{slice_get-map}
use Rattle.std.specs.Prelude.{find, take, replicate, unwrap_or, slice_range, nat_eq}
use Rattle.std.specs.Cmp.Lexicographic.{pointwise}
use Rattle.std.specs.List.{cons_option, filter_map, flat_map, range_with_len, zip}
use Rattle.std.specs.Map.{lookup}
use Rattle.std.specs.Option.{option_map, option_map_or}
use Rattle.rpg_cards.specs.Groups.{Group, data_role, followers, followers_with, groups_from, opening}
use Rattle.rpg_cards.specs.Names.{tables_on}
use Rattle.rpg_cards.specs.declared.constants.Constant.{Constant}
use Rattle.rpg_cards.specs.declared.constants.Constant.TheVariants as constant
use Rattle.rpg_cards.specs.declared.spec_card.SpecCard.{SpecCard}
use Rattle.rpg_decimal_words.specs.Zoned.{number_in}
use Rattle.rpg_program.specs.Values.{Number, Text, Value}
use Rattle.rpg_program.specs.declared.form.FieldForm.{FieldForm}
use Rattle.rpg_program.specs.declared.form.Kind.{Kind}
use Rattle.rpg_program.specs.declared.form.Kind.TheVariants as kind
use Rattle.rpg_sheet_specs.specs.declared.data.DataSpec.TheVariants as deck
use Rattle.rpg_sheet_specs.specs.declared.extension.ExtensionSpec.{ExtensionSpec}
use Rattle.rpg_sheet_specs.specs.declared.extension.TableSpec.{TableSpec}
use Rattle.rpg_sheet_specs.specs.declared.spec.Spec.{Spec}
use Rattle.rpg_sheet_specs.specs.declared.spec.Spec.TheVariants as spec
use Rattle.rpg_compile_program.specs.Data.{Loaded, all_loaded, constant_value, decks, entry_value, extensions, field_values, first_of_kind, loaded, tables_loaded, with_deck}
use Rattle.rpg_faults_data.specs.Data.{data_entries, entries_on, entry_on}
use Rattle.rpg_meaning.specs.Sheets.FirstValues.{Stored, all_stored, begins_deck, meant_blank, meant_constant, data_cards, meant_decks, entry_by, meant_entry, entry_text, meant_named_value, stored_on, wanting}
use Rattle.rpg_meaning.specs.Sheets.Cards.{cards_before}
use Rattle.rpg_meaning.proofs.Calculations.MeantLists.{map_append}

-- ---- lists

get_first : {X : Type 0} (xs ys : List X) (i : ℕ) → i < length xs → slice_get (xs ++ ys) i ≡ slice_get xs i
get_first [] ys i l = absurd (omega arith)
get_first (x ∷ xs) ys zero l = refl
get_first (x ∷ xs) ys (suc i) l = get_first xs ys i (omega arith)

get_second : {X : Type 0} (xs ys : List X) (i : ℕ) → length xs ≤ i → slice_get (xs ++ ys) i ≡ slice_get ys (i - length xs)
get_second [] ys i l = let e : i - 0 ≡ i = omega arith in ap (slice_get ys) (sym e)
get_second (x ∷ xs) ys zero l = absurd (omega arith)
get_second (x ∷ xs) ys (suc i) l = let e : suc i - suc (length xs) ≡ i - length xs = omega arith in get_second xs ys i (omega arith) ∙ ap (slice_get ys) (sym e)

get_range : (a n i : ℕ) → i < n → slice_get (range_with_len a n) i ≡ Some (a + i)
get_range a zero i l = absurd (omega arith)
get_range a (suc n) zero l = let e : a ≡ a + 0 = omega arith in ap Some e
get_range a (suc n) (suc i) l = let e : (a + 1) + i ≡ a + suc i = omega arith in get_range (a + 1) n i (omega arith) ∙ ap Some e

get_taken : {X : Type 0} (m : ℕ) (xs : List X) (i : ℕ) → i < m → slice_get (take m xs) i ≡ slice_get xs i
get_taken zero xs i l = absurd (omega arith)
get_taken (suc m) [] i l = refl
get_taken (suc m) (x ∷ xs) zero l = refl
get_taken (suc m) (x ∷ xs) (suc i) l = get_taken m xs i (omega arith)

get_left : {X : Type 0} (m : ℕ) (xs : List X) (i : ℕ) → m ≤ i → slice_get (take m xs) i ≡ None
get_left zero xs i l = refl
get_left (suc m) [] i l = refl
get_left (suc m) (x ∷ xs) zero l = absurd (omega arith)
get_left (suc m) (x ∷ xs) (suc i) l = get_left m xs i (omega arith)

get_copy : {X : Type 0} (m : ℕ) (x : X) (i : ℕ) → slice_get (replicate m x) i ≡ cond (nat_lt i m) (Some x) None
get_copy m x i = by (nat_lt i m) refl
  where
    inside : (m i : ℕ) → i < m → slice_get (replicate m x) i ≡ Some x
    inside zero i l = absurd (omega arith)
    inside (suc m) zero l = refl
    inside (suc m) (suc i) l = inside m i (omega arith)

    outside : (m i : ℕ) → m ≤ i → slice_get (replicate m x) i ≡ None
    outside zero i l = refl
    outside (suc m) zero l = absurd (omega arith)
    outside (suc m) (suc i) l = outside m i (omega arith)

    by : (b : Bool) → nat_lt i m ≡ b → slice_get (replicate m x) i ≡ cond b (Some x) None
    by true e = inside m i (omega (arith, e, ltb-true))
    by false e = outside m i (omega (arith, e, ltb-false))

-- ---- decks

followers_are_meant : (cs : List SpecCard) → followers data_role cs ≡ data_cards (cards_before begins_deck cs)
followers_are_meant [] = refl
followers_are_meant (c ∷ cs) = by c.spec (followers_are_meant cs)
  where
    by : (s : Spec) → followers data_role cs ≡ data_cards (cards_before begins_deck cs) → followers_with (data_role s) (followers data_role cs) ≡ data_cards (cards_before begins_deck (record { number = c.number; spec = s } ∷ cs))
    by (spec.Header x) rest = rest
    by (spec.File x) rest = rest
    by (spec.Extension x) rest = rest
    by (spec.Form x) rest = rest
    by (spec.Input x) rest = rest
    by (spec.Calculation x) rest = rest
    by (spec.Output x) rest = rest
    by (spec.Data deck.Begin) rest = refl
    by (spec.Data (deck.Card text)) rest = λ i. text ∷ rest i

decks_same : (file : Option (List ℕ)) (cs : List SpecCard) → map (λ (g : Group (Unit {0}) (List ℕ)). g.followers) (groups_from data_role file cs) ≡ meant_decks cs
decks_same file [] = refl
decks_same file (c ∷ cs) = by c.spec (λ file. decks_same file cs)
  where
    by : (s : Spec) → ((file : Option (List ℕ)) → map (λ (g : Group (Unit {0}) (List ℕ)). g.followers) (groups_from data_role file cs) ≡ meant_decks cs)
        → map (λ (g : Group (Unit {0}) (List ℕ)). g.followers) (opening (data_role s) file (followers data_role cs) (λ own. groups_from data_role own cs)) ≡ meant_decks (record { number = c.number; spec = s } ∷ cs)
    by (spec.Header x) rest = rest file
    by (spec.File x) rest = rest file
    by (spec.Extension x) rest = rest file
    by (spec.Form x) rest = rest file
    by (spec.Input x) rest = rest file
    by (spec.Calculation x) rest = rest file
    by (spec.Output x) rest = rest file
    by (spec.Data deck.Begin) rest = λ i. followers_are_meant cs i ∷ rest file i
    by (spec.Data (deck.Card text)) rest = rest file

-- ---- what is loaded

-- the values of what is stored, as a list
values_stored : Stored → List Value
values_stored s = map (entry_value s.table) (data_entries s.entries s.per_card s.width s.before s.table.length s.deck)

named_values : Stored → Loaded
unfolding values_stored
named_values s = (s.table.name, values_stored s)

tables_same : (e : ExtensionSpec) (n : ℕ) (deck : List (List ℕ)) → tables_loaded e n deck 0 (tables_on e) ≡ map named_values (stored_on ((e, n), deck))
unfolding values_stored named_values
tables_same e n deck = by e.alternating
  where
    by : (o : Option TableSpec) → tables_loaded (record e { alternating = o }) n deck 0 (tables_on (record e { alternating = o })) ≡ map named_values (stored_on ((record e { alternating = o }, n), deck))
    by None =
        let wide : 0 + e.table.length ≡ e.table.length = omega arith in
        λ i. (e.table.name, map (entry_value e.table) (data_entries e.entries n (wide i) 0 e.table.length deck)) ∷ []
    by (Some t) =
        let first : 0 + e.table.length ≡ e.table.length = omega arith in
        let wide : (0 + e.table.length) + t.length ≡ e.table.length + t.length = omega arith in
        λ i. (e.table.name, map (entry_value e.table) (data_entries e.entries n (wide i) 0 e.table.length deck)) ∷ (t.name, map (entry_value t) (data_entries e.entries n (wide i) (first i) t.length deck)) ∷ []

zip_none : {X Y : Type 0} (xs : List X) → zip xs (let none : List Y = [] in none) ≡ []
zip_none [] = refl
zip_none (x ∷ xs) = refl

all_same : (es : List ExtensionSpec) (ds : List (List (List ℕ))) → all_loaded es ds ≡ map named_values (flat_map stored_on (zip (filter_map wanting es) ds))
all_same [] ds = refl
all_same (e ∷ es) ds = by e.entries_per_card ds (λ ds. all_same es ds)
  where
    by : (o : Option ℕ) (ds : List (List (List ℕ))) → ((ds : List (List (List ℕ))) → all_loaded es ds ≡ map named_values (flat_map stored_on (zip (filter_map wanting es) ds)))
        → with_deck e o ds (λ rest. all_loaded es rest) ≡ map named_values (flat_map stored_on (zip (cons_option (option_map (λ n. (e, n)) o) (filter_map wanting es)) ds))
    by None ds rest = rest ds
    by (Some n) [] rest = rest [] ∙ ap (λ ps. map named_values (flat_map stored_on ps)) (zip_none (filter_map wanting es))
    by (Some n) (d ∷ ds) rest = (λ i. tables_same e n d i ++ rest ds i) ∙ sym (map_append named_values (stored_on ((e, n), d)) (flat_map stored_on (zip (filter_map wanting es) ds)))

loaded_same : (cards : List SpecCard) → loaded cards ≡ map named_values (all_stored cards)
loaded_same cards = all_same (extensions cards) (decks cards) ∙ ap (λ ds. map named_values (flat_map stored_on (zip (filter_map wanting (extensions cards)) ds))) (decks_same None cards)

found_same : (name : List ℕ) (ss : List Stored) → lookup (pointwise nat_eq name) (map named_values ss) ≡ option_map values_stored (find (λ (s : Stored). pointwise nat_eq name s.table.name) ss)
unfolding named_values
found_same name [] = refl
found_same name (s ∷ ss) = by (pointwise nat_eq name s.table.name) (found_same name ss)
  where
    by : (b : Bool) → lookup (pointwise nat_eq name) (map named_values ss) ≡ option_map values_stored (find (λ (s : Stored). pointwise nat_eq name s.table.name) ss)
        → cond b (Some (values_stored s)) (lookup (pointwise nat_eq name) (map named_values ss)) ≡ option_map values_stored (cond b (Some s) (find (λ (s : Stored). pointwise nat_eq name s.table.name) ss))
    by true rest = refl
    by false rest = rest

-- ---- the entries

value_same : (t : TableSpec) (text : List ℕ) → entry_value t text ≡ entry_by t.decimals text
value_same t text = by t.decimals
  where
    number : (o : Option ℤ) → unwrap_or (option_map Number o) (Number (pos 0)) ≡ Number (unwrap_or o (pos 0))
    number None = refl
    number (Some z) = refl

    by : (o : Option ℕ) → entry_value (record t { decimals = o }) text ≡ entry_by o text
    by None = refl
    by (Some decimals) = number (number_in text)

deck_same : (s : Stored) (cs : List (List ℕ)) (n : ℕ) → slice_get (flat_map (entries_on s.per_card s.width s.before s.table.length) cs) n ≡ entry_text s cs n
deck_same s [] n = refl
deck_same s (card ∷ cs) n = by (nat_lt n s.per_card) refl (λ m. deck_same s cs m)
  where
    entry : ℕ → List ℕ
    entry = entry_on s.width s.before s.table.length card

    long : length (entries_on s.per_card s.width s.before s.table.length card) ≡ s.per_card
    long = length-map (range_with_len 0 s.per_card) (entry_on s.width s.before s.table.length card) ∙ length-range_with_len 0 s.per_card

    back : (x : ℕ) → x ≡ (x + 1) - 1
    back x = omega arith

    by : (b : Bool) → nat_lt n s.per_card ≡ b → ((m : ℕ) → slice_get (flat_map (entries_on s.per_card s.width s.before s.table.length) cs) m ≡ entry_text s cs m)
        → slice_get (entries_on s.per_card s.width s.before s.table.length card ++ flat_map (entries_on s.per_card s.width s.before s.table.length) cs) n
        ≡ cond b (Some (slice_range card ((n * s.width + s.before + 1) - 1) (n * s.width + s.before + s.table.length))) (entry_text s cs (n - s.per_card))
    by true e rest =
        let l = long in
        let low : n < s.per_card = omega (arith, e, ltb-true) in
        let at : 0 + n ≡ n = omega arith in
        get_first (entries_on s.per_card s.width s.before s.table.length card) (flat_map (entries_on s.per_card s.width s.before s.table.length) cs) n (omega arith)
        ∙ slice_get-map (entry_on s.width s.before s.table.length card) (range_with_len 0 s.per_card) n
        ∙ ap (option_map (entry_on s.width s.before s.table.length card)) (get_range 0 s.per_card n low ∙ ap Some at)
        ∙ ap (λ x. Some (slice_range card x (n * s.width + s.before + s.table.length))) (back (n * s.width + s.before))
    by false e rest =
        let l = long in
        let high : s.per_card ≤ n = omega (arith, e, ltb-false) in
        get_second (entries_on s.per_card s.width s.before s.table.length card) (flat_map (entries_on s.per_card s.width s.before s.table.length) cs) n (omega arith)
        ∙ ap (λ k. slice_get (flat_map (entries_on s.per_card s.width s.before s.table.length) cs) (n - k)) l
        ∙ rest (n - s.per_card)

stored_same : (s : Stored) (n : ℕ) → slice_get (values_stored s) n ≡ meant_entry s n
unfolding values_stored
stored_same s n =
    slice_get-map (entry_value s.table) (data_entries s.entries s.per_card s.width s.before s.table.length s.deck) n
    ∙ by (nat_lt n s.entries) refl
  where
    by : (b : Bool) → nat_lt n s.entries ≡ b
        → option_map (entry_value s.table) (slice_get (data_entries s.entries s.per_card s.width s.before s.table.length s.deck) n) ≡ cond b (option_map (entry_by s.table.decimals) (entry_text s s.deck n)) None
    by true e =
        let low : n < s.entries = omega (arith, e, ltb-true) in
        ap (option_map (entry_value s.table)) (get_taken s.entries (flat_map (entries_on s.per_card s.width s.before s.table.length) s.deck) n low ∙ deck_same s s.deck n)
        ∙ (λ i. option_map (λ text. value_same s.table text i) (entry_text s s.deck n))
    by false e =
        let high : s.entries ≤ n = omega (arith, e, ltb-false) in
        ap (option_map (entry_value s.table)) (get_left s.entries (flat_map (entries_on s.per_card s.width s.before s.table.length) s.deck) n high)

blank_same : (k : Kind) (len : ℕ) → first_of_kind k len ≡ meant_blank k len
blank_same kind.Number len = refl
blank_same kind.Text len = refl

pub named_same : (cards : List SpecCard) (name : List ℕ) (form : FieldForm) (n : ℕ) → slice_get (field_values (loaded cards) (name, form)) n ≡ meant_named_value cards name form n
named_same cards name form n =
    ap (λ (l : List Loaded). slice_get (unwrap_or (lookup (pointwise nat_eq name) l) blanks) n) (loaded_same cards)
    ∙ ap (λ o. slice_get (unwrap_or o blanks) n) (found_same name (all_stored cards))
    ∙ by (find (λ (s : Stored). pointwise nat_eq name s.table.name) (all_stored cards))
  where
    blanks : List Value
    blanks = replicate form.entries (first_of_kind form.kind form.length)

    by : (o : Option Stored) → slice_get (unwrap_or (option_map values_stored o) (replicate form.entries (first_of_kind form.kind form.length))) n
        ≡ option_map_or (λ s. meant_entry s n) o (cond (nat_lt n form.entries) (Some (meant_blank form.kind form.length)) None)
    by None = get_copy form.entries (first_of_kind form.kind form.length) n ∙ ap (λ v. cond (nat_lt n form.entries) (Some v) None) (blank_same form.kind form.length)
    by (Some s) = stored_same s n

pub constant_same : (c : Constant) → constant_value c ≡ meant_constant c
constant_same (constant.Number n) = refl
constant_same (constant.Text text) = refl
