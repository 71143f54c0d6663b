-- Types by the card in front, and what follows their headings.
use Rattle.std.proofs.Common.{◌≡◌, ℕ, ◌+◌, ◌<◌, List, ◌∷◌, ◌++◌, length, get_or, drop, map, Option, None, Some, refl, sym, ap, ◌∙◌, append_assoc}
use Rattle.std.proofs.lemmas.List.{at_drop_more}
use Rattle.std.specs.List.{cons_option, filter_map, flat_map}
use Rattle.std.specs.Option.{option_and_then, option_or, option_to_list}
use Rattle.rpg_cards.specs.Cards.{input_on, type_in, type_on}
use Rattle.rpg_cards.specs.Files.{file_by}
use Rattle.rpg_cards.specs.Groups.{followers, followers_with, groups_from, input_card_role, input_role, opening, role_on}
use Rattle.rpg_cards.specs.Keys.{Key}
use Rattle.rpg_cards.specs.declared.spec_card.SpecCard.{SpecCard}
use Rattle.rpg_compile_layouts.specs.Parts.{codes_after, fields_after, levels_after, type_following, types_from}
use Rattle.rpg_program.specs.Input.{TypeRow}
use Rattle.rpg_program.specs.declared.input.ControlField.{ControlField}
use Rattle.rpg_program.specs.declared.input.InputFile.{InputFile}
use Rattle.rpg_program.specs.declared.input.RecordCode.{RecordCode}
use Rattle.rpg_sheet_specs.specs.declared.indicator.Three.{Three}
use Rattle.rpg_sheet_specs.specs.declared.input.InputFieldSpec.{InputFieldSpec}
use Rattle.rpg_sheet_specs.specs.declared.input.RecordCode as card
use Rattle.rpg_sheet_specs.specs.declared.input.InputSpec.{InputSpec}
use Rattle.rpg_sheet_specs.specs.declared.input.InputSpec.TheVariants as input
use Rattle.rpg_sheet_specs.specs.declared.input.RecordType.{RecordType}
use Rattle.rpg_compile_program.specs.Types.{and_card_codes, card_type, codes_of, field_at_level, input_fields_in, input_file}

-- ---- the card in front

module _ (source : List SpecCard) where
  abbrev types_at : Option (List ℕ) → List SpecCard → Option InputSpec → List (TypeRow Key)
  types_at name following o = map (card_type source) (opening (role_on input_card_role o) name (followers input_role following) (λ own. groups_from input_role own following))

  types_heading : (name : Option (List ℕ)) (c : SpecCard) (following rest : List SpecCard) (t : RecordType) → rest ≡ c ∷ following → Some t ≡ type_on c.spec
      → types_from source name rest ≡ type_following (input_file (file_by (option_or t.file name) source)) t following ∷ types_from source (option_or t.file name) following
  types_heading name c following rest t split on = ap (types_from source name) split ∙ by_card (input_on c.spec) on
    where
      by_card : (o : Option InputSpec) → Some t ≡ option_and_then type_in o
          → types_at name following o ≡ type_following (input_file (file_by (option_or t.file name) source)) t following ∷ types_from source (option_or t.file name) following
      by_card None e = absurd cc
      by_card (Some (input.Type u)) e =
          let same : t ≡ u = cc in
          ap (λ x. type_following (input_file (file_by (option_or x.file name) source)) x following ∷ types_from source (option_or x.file name) following) (sym same)
      by_card (Some (input.And cs)) e = absurd cc
      by_card (Some (input.Field f)) e = absurd cc

  pub types_first : (name own : Option (List ℕ)) (file : InputFile) (c : SpecCard) (following rest : List SpecCard) (t : RecordType) → rest ≡ c ∷ following → Some t ≡ type_on c.spec → own ≡ option_or t.file name → file ≡ input_file (file_by own source)
      → types_from source name rest ≡ type_following file t following ∷ types_from source own following
  types_first name own file c following rest t split on named read =
      types_heading name c following rest t split on
      ∙ ap (λ n. type_following (input_file (file_by n source)) t following ∷ types_from source n following) (sym named)
      ∙ ap (λ f. type_following f t following ∷ types_from source own following) (sym read)

  pub types_other : (name : Option (List ℕ)) (c : SpecCard) (following rest : List SpecCard) → rest ≡ c ∷ following → None ≡ type_on c.spec → types_from source name rest ≡ types_from source name following
  types_other name c following rest split none = ap (types_from source name) split ∙ by_card (input_on c.spec) none
    where
      by_card : (o : Option InputSpec) → None ≡ option_and_then type_in o → types_at name following o ≡ types_from source name following
      by_card None e = refl
      by_card (Some (input.Type u)) e = absurd cc
      by_card (Some (input.And cs)) e = refl
      by_card (Some (input.Field f)) e = refl

-- ---- a card after a heading

pub next_input : (cards : List SpecCard) (i : ℕ) (c : SpecCard) (s : InputSpec) → i < length cards → c ≡ get_or cards i c → Some s ≡ input_on c.spec
    → followers input_role (drop i cards) ≡ followers_with (input_card_role s) (followers input_role (drop (i + 1) cards))
next_input cards i c s lt is on =
    at_drop_more (followers input_role) cards i c lt
    ∙ ap (λ (d : SpecCard). followers_with (input_role d.spec) (followers input_role (drop (i + 1) cards))) (sym is)
    ∙ ap (λ o. followers_with (role_on input_card_role o) (followers input_role (drop (i + 1) cards))) (sym on)

pub next_field : (cards : List SpecCard) (i : ℕ) (c : SpecCard) (f : InputFieldSpec) → i < length cards → c ≡ get_or cards i c → Some (input.Field f) ≡ input_on c.spec
    → fields_after (drop i cards) ≡ f ∷ fields_after (drop (i + 1) cards)
next_field cards i c f lt is on = ap input_fields_in (next_input cards i c (input.Field f) lt is on)

-- the codes of an AND card more
pub codes_more : (cards : List SpecCard) (i : ℕ) (c : SpecCard) (cs : Three (Option card.RecordCode)) (old new all : List RecordCode) → i < length cards → c ≡ get_or cards i c → Some (input.And cs) ≡ input_on c.spec
    → new ≡ old ++ codes_of cs → old ++ codes_after (drop i cards) ≡ all → new ++ codes_after (drop (i + 1) cards) ≡ all
codes_more cards i c cs old new all lt is on put so_far =
    let rest = codes_after (drop (i + 1) cards) in
    ap (λ xs. xs ++ rest) put ∙ append_assoc old (codes_of cs) rest
    ∙ ap (λ xs. old ++ xs) (sym (ap (flat_map and_card_codes) (next_input cards i c (input.And cs) lt is on))) ∙ so_far

-- the level of a field more, if it has one
cons_list : {X : Type 0} (o : Option X) (xs : List X) → option_to_list o ++ xs ≡ cons_option o xs
cons_list None xs = refl
cons_list (Some x) xs = refl

pub levels_more : (level_of : InputFieldSpec → Option ℕ) (cards : List SpecCard) (i : ℕ) (c : SpecCard) (f : InputFieldSpec) (made : Option ControlField) (old new all : List ControlField) → i < length cards → c ≡ get_or cards i c → Some (input.Field f) ≡ input_on c.spec
    → made ≡ field_at_level level_of f → new ≡ old ++ option_to_list made → old ++ levels_after level_of (drop i cards) ≡ all → new ++ levels_after level_of (drop (i + 1) cards) ≡ all
levels_more level_of cards i c f made old new all lt is on here put so_far =
    let rest = levels_after level_of (drop (i + 1) cards) in
    ap (λ xs. xs ++ rest) put ∙ append_assoc old (option_to_list made) rest
    ∙ ap (λ xs. old ++ xs) (cons_list made rest ∙ ap (λ o. cons_option o rest) here ∙ sym (ap (filter_map (field_at_level level_of)) (next_field cards i c f lt is on))) ∙ so_far
