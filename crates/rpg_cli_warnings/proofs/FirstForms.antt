-- The digits of a field that a card is the first to define.
use Rattle.std.proofs.Common.{◌≡◌, ℕ, Bool, true, false, not, cond, ◌||◌, List, [], ◌∷◌, ◌++◌, take, drop, get_or, length, ◌+◌, ◌<◌, append_assoc, Option, None, Some, refl, sym, ap, ◌∙◌, subst}
use Rattle.std.proofs.Math.Seq.{take-append_seam}
use Rattle.std.proofs.lemmas.List.{drop_more}
use Rattle.std.specs.List.{cons_option, filter_map, list_any}
use Rattle.std.specs.Option.{is_some, option_and_then, option_map, option_to_list}
use Rattle.rpg_card_index.proofs.PlaceLemmas.{stands_alone}
use Rattle.rpg_card_index.proofs.TotalLemmas.{same_name_equiv}
use Rattle.rpg_card_index.specs.Index.{IsNewAt, StandAt}
use Rattle.rpg_cards.proofs.FieldLemmas.{known_fields}
use Rattle.rpg_cards.specs.Names.{defined_as, definition_by, definitions, first_form, form_of_name, given_names, is_new_name, is_of, sized_form, unless_given}
use Rattle.rpg_cards.specs.declared.names.Defined.{Defined}
use Rattle.rpg_cards.specs.declared.names.Definition.{Definition}
use Rattle.rpg_cards.specs.declared.spec_card.SpecCard.{SpecCard}
use Rattle.rpg_cli_warnings.specs.Digits.{result_digits, whole_digits_of}
use Rattle.rpg_program.specs.declared.form.FieldForm.{FieldForm}
use Rattle.rpg_sheet_specs.specs.declared.calculation.CalculationSpec.{CalculationSpec}
use Rattle.rpg_sheet_specs.specs.declared.entry.Entry.{Entry}
use Rattle.rpg_symbols.specs.Fields.{defined_form, given}

-- ---- the form of a name, by a definition that no other comes before

not_given : (o : Option FieldForm) (x : Defined) → is_some o ≡ false → unless_given o x ≡ x
not_given None x e = refl
not_given (Some form) x e = absurd cc

neither : (a b : Bool) → not (a || b) ≡ true → (a ≡ false) × (b ≡ false)
neither true b e = absurd cc
neither false true e = absurd cc
neither false false e = (refl, refl)

found : (name : List ℕ) (front : List Definition) (d : Definition) (back : List Definition) → list_any (is_of name) front ≡ false → is_of name d ≡ true → first_form name (front ++ d ∷ back) ≡ defined_as d.form
found name [] d back none is = ap (λ b. cond b (defined_as d.form) (first_form name back)) is
found name (x ∷ xs) d back none is = by_test (is_of name x) none (found name xs d back)
  where
    by_test : (b : Bool) → (b || list_any (is_of name) xs) ≡ false → (list_any (is_of name) xs ≡ false → is_of name d ≡ true → first_form name (xs ++ d ∷ back) ≡ defined_as d.form)
        → cond b (defined_as x.form) (first_form name (xs ++ d ∷ back)) ≡ defined_as d.form
    by_test true e rest = absurd cc
    by_test false e rest = rest e is

form_of_first : (cards : List SpecCard) (place : ℕ) (d : Definition) → StandAt place (d ∷ []) (definitions cards) → is_new_name d.name (take place (definitions cards)) ≡ true → form_of_name d.name cards ≡ defined_as d.form
form_of_first cards place d at new =
    let front = at.0 in
    let back = at.1 in
    let none = neither (list_any (is_of d.name) given_names) (list_any (is_of d.name) (take place (definitions cards))) new in
    let before : take place (definitions cards) ≡ front = ap (take place) at.3 ∙ ap (λ n. take n (front ++ (d ∷ back))) at.2 ∙ take-append_seam front (d ∷ back) in
    not_given (defined_form given d.name) (first_form d.name (definitions cards)) (sym (known_fields given d.name) ∙ none.0)
    ∙ ap (first_form d.name) at.3 ∙ found d.name front d back (sym (ap (list_any (is_of d.name)) before) ∙ none.1) (same_name_equiv.refl d)

-- ---- what is made of each of some items, with one more

pub one_more_of : {X Y : Type 0} (f : X → Option Y) (xs : List X) (i : ℕ) (x : X) (ys : List Y) → i < length xs → x ≡ get_or xs i x → (ys ++ option_to_list (f x)) ++ filter_map f (drop (i + 1) xs) ≡ ys ++ filter_map f (drop i xs)
one_more_of f xs i x ys lt is =
    append_assoc ys (option_to_list (f x)) (filter_map f (drop (i + 1) xs)) ∙ ap (λ (l : List _). ys ++ l) (by_made (f x) ∙ sym (ap (filter_map f) left))
  where
    left : drop i xs ≡ x ∷ drop (i + 1) xs
    left = rw (drop_more xs i x lt, ← is) refl

    by_made : (o : Option _) → option_to_list o ++ filter_map f (drop (i + 1) xs) ≡ cons_option o (filter_map f (drop (i + 1) xs))
    by_made None = refl
    by_made (Some y) = refl

-- ---- the digits of a result field, by the card that first defines it

abbrev defined_by : CalculationSpec → ℕ → Option Entry → Option Definition
defined_by k len r = option_map (λ (e : Entry). record { name = e.name; form = sized_form len k.decimals }) r

pub digits_of_first : (cards : List SpecCard) (place : ℕ) (k : CalculationSpec) (e : Entry) (len : ℕ) (new : Bool) → k.result_field ≡ Some e → k.length ≡ Some len → StandAt place (option_to_list (definition_by k)) (definitions cards)
    → IsNewAt (definitions cards) place (λ d before. is_new_name d.name before) new → new ≡ true → result_digits cards k.result_field ≡ whole_digits_of (defined_as (sized_form len k.decimals))
unfolding result_digits
digits_of_first cards place k e len new field sized at is fresh =
    let d : Definition = record { name = e.name; form = sized_form len k.decimals } in
    let defines : definition_by k ≡ Some d = ap (λ (o : Option ℕ). option_and_then (λ n. defined_by k n k.result_field) o) sized ∙ ap (defined_by k len) field in
    let alone : StandAt place (d ∷ []) (definitions cards) = subst (λ (o : Option Definition). StandAt place (option_to_list o) (definitions cards)) defines at in
    ap (result_digits cards) field ∙ ap whole_digits_of (form_of_first cards place d alone (sym (is d (stands_alone (definitions cards) place d alone)) ∙ fresh))
