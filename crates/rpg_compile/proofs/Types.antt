-- The record types of a source without a fault have no more codes, levels and fields than an object program may have.
use Rattle.std.proofs.Common.{◌≡◌, ℕ, ◌+◌, ◌≤◌, cond, List, [], ◌∷◌, ◌++◌, length, length-append, Option, None, Some, refl, sum_by, arith}
use Rattle.std.proofs.lemmas.List.{length-map}
use Rattle.std.proofs.lemmas.List.Sums.{sum_by-cons}
use Rattle.std.specs.List.{cons_option, filter_map, flat_map}
use Rattle.std.specs.Option.{option_map}
use Rattle.std.specs.Prelude.{All, count_by, is_some}
use Rattle.rpg_cards.specs.Groups.{Group, group_count, groups, input_role, open_group}
use Rattle.rpg_cards.specs.declared.spec_card.SpecCard.{SpecCard}
use Rattle.rpg_compile_program.proofs.Each.{each_row}
use Rattle.rpg_compile_layouts.specs.Within.{IsTypeWithin}
use Rattle.rpg_faults_limits.specs.Limits.{code_count, and_code_count, field_count, is_input_field_card, is_level_field, level_count, of_type}
use Rattle.rpg_sheet_specs.specs.Three.{filled_count}
use Rattle.rpg_compile.proofs.Walks.{all_of, at_open, one_more, three_count, unpassed}
use Rattle.rpg_sheet_specs.specs.declared.indicator.Three.{Three}
use Rattle.rpg_sheet_specs.specs.declared.input.InputSpec.{InputSpec}
use Rattle.rpg_sheet_specs.specs.declared.input.InputSpec.TheVariants as input
use Rattle.rpg_sheet_specs.specs.declared.input.RecordCode.{RecordCode}
use Rattle.rpg_sheet_specs.specs.declared.input.RecordType.{RecordType}
use Rattle.rpg_compile_program.proofs.Lists.{all_within, each_both, front_within}
use Rattle.rpg_compile_program.proofs.Matched.{Matches}
use Rattle.rpg_compile_program.proofs.OpenGroups.{each_open}
use Rattle.rpg_compile_program.proofs.Types.{each_few_rows}
use Rattle.rpg_compile_program.specs.Ranges.{AreCards}
use Rattle.rpg_compile_program.specs.Rules.{KeepsCardRules}
use Rattle.rpg_compile_program.specs.Types.{and_card_codes, card_type, codes_of, control_field, control_field_of, input_fields_in, input_row, record_code_of, types_on}

-- ---- what the cards of a type come to

codes_count : (t : Three (Option RecordCode)) → length (codes_of t) ≡ filled_count t
codes_count t = three_count record_code_of t.first t.second t.third

further_count : (i : InputSpec) → length (and_card_codes i) ≡ and_code_count i
further_count (input.Type t) = refl
further_count (input.And cs) = codes_count cs
further_count (input.Field f) = refl

all_codes : (is : List InputSpec) → length (flat_map and_card_codes is) ≡ sum_by and_code_count is
all_codes [] = refl
all_codes (i ∷ is) =
    let here = further_count i in
    let rest = all_codes is in
    let both = length-append (and_card_codes i) (flat_map and_card_codes is) in
    let sum = sum_by-cons and_code_count i is in
    omega arith

all_inputs : (is : List InputSpec) → length (input_fields_in is) ≡ count_by is_input_field_card is
all_inputs [] = refl
all_inputs (input.Type t ∷ is) = let rest = all_inputs is in let more = one_more is_input_field_card (input.Type t) is in omega arith
all_inputs (input.And cs ∷ is) = let rest = all_inputs is in let more = one_more is_input_field_card (input.And cs) is in omega arith
all_inputs (input.Field f ∷ is) = let rest = all_inputs is in let more = one_more is_input_field_card (input.Field f) is in omega arith

all_levels : (is : List InputSpec) → length (filter_map control_field_of (input_fields_in is)) ≡ count_by is_level_field is
all_levels [] = refl
all_levels (input.Type t ∷ is) = let rest = all_levels is in let more = one_more is_level_field (input.Type t) is in omega arith
all_levels (input.And cs ∷ is) = let rest = all_levels is in let more = one_more is_level_field (input.And cs) is in omega arith
all_levels (input.Field f ∷ is) =
    let rest = all_levels is in
    let more = one_more is_level_field (input.Field f) is in
    let here = by f.level in
    omega arith
  where
    by : (o : Option ℕ) → length (cons_option (option_map (control_field f) o) (filter_map control_field_of (input_fields_in is))) ≡ cond (is_some o) 1 0 + length (filter_map control_field_of (input_fields_in is))
    by None = omega arith
    by (Some l) = omega arith

abbrev IsWithin : Group RecordType InputSpec → Type 0
IsWithin g = (code_count g ≤ 100) × (level_count g ≤ 100) × (field_count g ≤ 500)

-- with nine match fields at most
abbrev IsFew : Group RecordType InputSpec → Type 0
IsFew g = IsWithin g × (length (Matches g) ≤ 9)

type_within : (cards : List SpecCard) (g : Group RecordType InputSpec) → IsFew g → IsTypeWithin (card_type cards g)
type_within cards g few =
    let h = few.0 in
    let codes = length-append (codes_of g.heading.codes) (flat_map and_card_codes g.followers) in
    let own = codes_count g.heading.codes in
    let further = all_codes g.followers in
    let levels = all_levels g.followers in
    let inputs = all_inputs g.followers in
    let same = length-map (input_fields_in g.followers) input_row in
    let few_codes = h.0 in
    let few_levels = h.1 in
    let few_fields = h.2 in
    record { codes = omega arith; levels = omega arith; inputs = omega arith; matches = few.1 }

module _ (cards : List SpecCard) (rules : KeepsCardRules cards) where
  pub few_types : length (types_on cards) ≤ 200
  few_types =
      let all : group_count input_role cards ≤ 200 = all_within (group_count input_role) 200 cards (omega arith) (λ before c after split. (unpassed cards rules before c after split).types) in
      let same = length-map (groups input_role cards) (card_type cards) in
      omega arith

  opened : (before after : List SpecCard) → cards ≡ before ++ after → (g : Group RecordType InputSpec) → open_group input_role before ≡ Some g → IsWithin g
  opened before after split g is = (
    at_open code_count 100 (open_group input_role before) g (front_within (of_type code_count) 100 cards (omega arith) (λ b c a s. (unpassed cards rules b c a s).codes) before after split) is,
    at_open level_count 100 (open_group input_role before) g (front_within (of_type level_count) 100 cards (omega arith) (λ b c a s. (unpassed cards rules b c a s).levels) before after split) is,
    at_open field_count 500 (open_group input_role before) g (front_within (of_type field_count) 500 cards (omega arith) (λ b c a s. (unpassed cards rules b c a s).inputs) before after split) is,
  )

  pub types_within : AreCards cards → All IsTypeWithin (types_on cards)
  types_within ranges =
      all_of IsTypeWithin (types_on cards) (each_row IsFew IsTypeWithin (card_type cards) (groups input_role cards) (type_within cards)
      (each_both IsWithin (λ g. length (Matches g) ≤ 9) IsFew (groups input_role cards) (λ g within few. (within, few)) (each_open input_role cards IsWithin opened) (each_few_rows cards rules ranges)))
