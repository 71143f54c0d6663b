-- Types without control and match fields join nothing badly.
use denote.Bor.{Bor}
use Rattle.std.proofs.Common.{◌≡◌, ℕ, Bool, true, false, cond, ◌||◌, ◌==◌, List, [], ◌∷◌, Option, None, Some, refl, sym, ap, ap₂, ◌∙◌, suc, ◌+◌, ◌-◌, ◌<◌, ◌≤◌, arith, drop, drop-cons, get_or, length}
use Rattle.std.proofs.lemmas.List.{drop_all}
use Rattle.std.specs.List.{list_any}
use Rattle.std.specs.Prelude.{option_copied}
use Rattle.std.specs.Option.{is_none, is_some, option_and_then, option_map_or, option_or}
use Rattle.rpg_cards.specs.Cards.{input_on, type_in}
use Rattle.rpg_cards.specs.Groups.{followers, followers_with, groups, input_card_role, input_role, role_on}
use Rattle.rpg_cards.specs.declared.spec_card.SpecCard.{SpecCard}
use Rattle.rpg_faults_places.proofs.LevelLemmas.{filled}
use Rattle.rpg_faults_places.specs.Joined.{has_joined_field, is_joined}
use Rattle.rpg_faults_places.specs.Lengths.{with_lengths}
use Rattle.rpg_faults_places.specs.Places.{first_length, first_valid_matches, joins_badly, level_fields, level_length, lengths_differ, levels, matched_fields, matches_differ, valid_length, valid_matches}
use Rattle.rpg_sheet_specs.specs.declared.input.InputFieldSpec.{InputFieldSpec}
use Rattle.rpg_sheet_specs.specs.declared.input.InputSpec.{InputSpec}
use Rattle.rpg_sheet_specs.specs.declared.input.InputSpec.TheVariants as input
use Rattle.rpg_sheet_specs.specs.declared.input.RecordType.{RecordType}

-- ---- one field

no_level : (f : InputFieldSpec) → is_joined f ≡ false → f.level ≡ None
no_level f h = by f.level f.match_level h
  where
    by : (a b : Option ℕ) → (is_some a || is_some b) ≡ false → a ≡ None
    by None b e = refl
    by (Some n) b e = absurd cc

no_match : (f : InputFieldSpec) → is_joined f ≡ false → f.match_level ≡ None
no_match f h = by f.level f.match_level h
  where
    by : (a b : Option ℕ) → (is_some a || is_some b) ≡ false → b ≡ None
    by None None e = refl
    by None (Some n) e = absurd cc
    by (Some n) b e = absurd cc

-- ---- the fields of a type

or_right_false : (a b : Bool) → (a || b) ≡ false → b ≡ false
or_right_false true b e = absurd cc
or_right_false false b e = e

or_left_false : (a b : Bool) → (a || b) ≡ false → a ≡ false
or_left_false true b e = absurd cc
or_left_false false b e = refl

no_level_fields : (level : ℕ) (specs : List InputSpec) → list_any has_joined_field specs ≡ false → level_fields level specs ≡ []
no_level_fields level [] h = refl
no_level_fields level (input.Type t ∷ specs) h = no_level_fields level specs h
no_level_fields level (input.And codes ∷ specs) h = no_level_fields level specs h
no_level_fields level (input.Field f ∷ specs) h =
    ap (λ (o : Option ℕ). cond (option_map_or (λ l. l == level) o false) (f ∷ level_fields level specs) (level_fields level specs)) (no_level f (or_left_false (is_joined f) (list_any has_joined_field specs) h))
    ∙ no_level_fields level specs (or_right_false (is_joined f) (list_any has_joined_field specs) h)

no_matched_fields : (specs : List InputSpec) → list_any has_joined_field specs ≡ false → matched_fields specs ≡ []
no_matched_fields [] h = refl
no_matched_fields (input.Type t ∷ specs) h = no_matched_fields specs h
no_matched_fields (input.And codes ∷ specs) h = no_matched_fields specs h
no_matched_fields (input.Field f ∷ specs) h =
    ap (λ (o : Option ℕ). cond (is_some o) (f ∷ matched_fields specs) (matched_fields specs)) (no_match f (or_left_false (is_joined f) (list_any has_joined_field specs) h))
    ∙ no_matched_fields specs (or_right_false (is_joined f) (list_any has_joined_field specs) h)

differs_never : (first : Option ℕ) → lengths_differ first None ≡ false
differs_never None = refl
differs_never (Some n) = refl

matches_never : (first : Option (List ℕ)) → matches_differ first None ≡ false
matches_never None = refl
matches_never (Some ns) = refl

no_other_lengths : (before : List SpecCard) (specs : List InputSpec) (ls : List ℕ) → list_any has_joined_field specs ≡ false
    → list_any (λ level. lengths_differ (first_length level (groups input_role before)) (level_length level specs)) ls ≡ false
no_other_lengths before specs [] h = refl
no_other_lengths before specs (level ∷ ls) h =
    ap (λ fs. lengths_differ (first_length level (groups input_role before)) (valid_length fs) || list_any (λ level. lengths_differ (first_length level (groups input_role before)) (level_length level specs)) ls) (no_level_fields level specs h)
    ∙ ap (λ b. b || list_any (λ level. lengths_differ (first_length level (groups input_role before)) (level_length level specs)) ls) (differs_never (first_length level (groups input_role before)))
    ∙ no_other_lengths before specs ls h

or_none : (o : Option ℕ) → o ≡ option_or o None
or_none None = refl
or_none (Some n) = refl

-- a type without such fields leaves the first lengths as they are
pub first_stays : (first : List (Option ℕ)) (specs : List InputSpec) → length first ≡ 9 → list_any has_joined_field specs ≡ false → first ≡ with_lengths first specs
first_stays first specs nine h =
    filled (λ level. option_or (get_or first (level - 1) None) (level_length level specs)) first None nine
    (λ k less. or_none (get_or first k None) ∙ ap (λ fs. option_or (get_or first k None) (valid_length fs)) (sym (no_level_fields (k + 1) specs h))
    ∙ ap (λ i. option_or (get_or first i None) (level_length (k + 1) specs)) (omega arith))

type_alone : (before after : List SpecCard) (t : RecordType) → list_any has_joined_field (followers input_role after) ≡ false → joins_badly before after (input.Type t) ≡ false
type_alone before after t h =
    ap₂ (◌||◌) (no_other_lengths before (followers input_role after) levels h)
    (ap (λ fs. matches_differ (first_valid_matches (groups input_role before)) (valid_matches fs)) (no_matched_fields (followers input_role after) h)
    ∙ matches_never (first_valid_matches (groups input_role before)))

-- a card that isn't a further one of a type, before no such field
pub card_alone : (before after : List SpecCard) (i : Option InputSpec) (t : Option (Bor RecordType)) → option_copied t ≡ option_and_then type_in i → is_none t ≡ false → list_any has_joined_field (followers input_role after) ≡ false
    → option_map_or (joins_badly before after) i false ≡ false
card_alone before after None t is some h = refl
card_alone before after (Some (input.Type own)) t is some h = type_alone before after own h
card_alone before after (Some (input.And codes)) t is some h = refl
card_alone before after (Some (input.Field f)) None is some h = absurd cc
card_alone before after (Some (input.Field f)) (Some own) is some h = absurd cc

-- ---- card by card

module _ (after : List SpecCard) (i : ℕ) (so_far : list_any has_joined_field (followers input_role after) ≡ list_any has_joined_field (followers input_role (drop i after))) where
  pub at_end : length after ≤ i → list_any has_joined_field (followers input_role after) ≡ false
  at_end ended = so_far ∙ ap (λ cs. list_any has_joined_field (followers input_role cs)) (drop_all i after ended)

  pub at_type : (c : SpecCard) (t : RecordType) → i < length after → c ≡ get_or after i c → input_on c.spec ≡ Some (input.Type t) → list_any has_joined_field (followers input_role after) ≡ false
  at_type c t less is on =
      so_far ∙ ap (λ cs. list_any has_joined_field (followers input_role cs)) (drop-cons after i c less)
      ∙ ap (λ (d : SpecCard). list_any has_joined_field (followers input_role (d ∷ drop (suc i) after))) (sym is)
      ∙ ap (λ (o : Option InputSpec). list_any has_joined_field (followers_with (role_on input_card_role o) (followers input_role (drop (suc i) after)))) on
