-- The lines of a source without a fault have no more alternatives, conditions and fields than an object program may have, and their indices fit.
use Rattle.std.proofs.Common.{◌≡◌, ℕ, zero, suc, ◌+◌, ◌<◌, ◌≤◌, Bool, true, false, List, [], ◌∷◌, ◌++◌, length, length-append, append_assoc, map, take, fold, Option, None, Some, refl, sym, ◌∙◌, subst, arith}
use Rattle.std.proofs.lemmas.Bool.{leb-true}
use Rattle.std.proofs.lemmas.List.{length-map, take-append-le, take_all}
use Rattle.std.specs.Prelude.{All, count_by, nat_le}
use Rattle.rpg_cards.specs.Calculations.{condition_of, standing}
use Rattle.rpg_cards.specs.Cards.{is_output_field}
use Rattle.rpg_cards.specs.Keys.{Key}
use Rattle.rpg_cards.specs.Plain.{Each}
use Rattle.rpg_cards.proofs.GroupLemmas.{open_group-push}
use Rattle.rpg_cards.specs.Groups.{Apart, Follower, Group, Heading, Role, group_count, groups, open_group, output_role, with_card, with_followers}
use Rattle.rpg_cards.specs.declared.spec_card.SpecCard.{SpecCard}
use Rattle.rpg_compile_program.proofs.Each.{each_row}
use Rattle.rpg_program.specs.Lines.{Line}
use Rattle.rpg_program.specs.declared.condition.Condition.{Condition}
use Rattle.rpg_compile_layouts.specs.Rows.{row_in_table, rows_of}
use Rattle.rpg_compile_layouts.specs.Within.{AreFew, HasIndexRow, IsLineWithin}
use Rattle.rpg_faults_limits.specs.Limits.{alternative_count, condition_count, conditions_with, is_or_line, of_line, output_field_count}
use Rattle.rpg_sheet_specs.specs.Three.{filled_count}
use Rattle.rpg_compile.proofs.Indices.{HasValidIndex, valid_on_cards}
use Rattle.rpg_compile.proofs.Walks.{all_of, at_open, one_more, three_count, unpassed}
use Rattle.rpg_program.specs.Naming.{renamed_field}
use Rattle.rpg_sheet_specs.specs.declared.indicator.ConditionSpec as sheet
use Rattle.rpg_sheet_specs.specs.declared.indicator.Three.{Three}
use Rattle.rpg_sheet_specs.specs.declared.output.OutputRecord.{OutputRecord}
use Rattle.rpg_sheet_specs.specs.declared.output.OutputSpec.{OutputSpec}
use Rattle.rpg_sheet_specs.specs.declared.output.OutputSpec.TheVariants as output
use Rattle.rpg_compile_program.proofs.Lists.{Seen, all_within, each_both, front_keeps, front_within}
use Rattle.rpg_compile_program.proofs.OpenGroups.{InGroup, each_valid, each_open}
use Rattle.rpg_compile_program.specs.Lines.{card_line, line_alternatives, line_field_of, lines_on, output_fields_in}
use Rattle.rpg_compile_program.specs.Rules.{KeepsCardRules}
use Rattle.rpg_compile_program.specs.Table.{key_number, table_of}

-- ---- what the cards of a line come to

standing_count : (t : Three (Option sheet.ConditionSpec)) → length (standing t) ≡ filled_count t
standing_count t = three_count condition_of t.first t.second t.third

all_alternatives : (so_far : List Condition) (os : List OutputSpec) → length (line_alternatives so_far os) ≡ 1 + count_by is_or_line os
all_alternatives so_far [] = refl
all_alternatives so_far (output.Record r ∷ os) = let rest = all_alternatives so_far os in let more = one_more is_or_line (output.Record r) os in omega arith
all_alternatives so_far (output.And t ∷ os) = let rest = all_alternatives (so_far ++ standing t) os in let more = one_more is_or_line (output.And t) os in omega arith
all_alternatives so_far (output.Or t ∷ os) = let rest = all_alternatives (standing t) os in let more = one_more is_or_line (output.Or t) os in omega arith
all_alternatives so_far (output.Field f ∷ os) = let rest = all_alternatives so_far os in let more = one_more is_or_line (output.Field f) os in omega arith

all_fields : (os : List OutputSpec) → length (output_fields_in os) ≡ count_by is_output_field os
all_fields [] = refl
all_fields (output.Record r ∷ os) = let rest = all_fields os in let more = one_more is_output_field (output.Record r) os in omega arith
all_fields (output.And t ∷ os) = let rest = all_fields os in let more = one_more is_output_field (output.And t) os in omega arith
all_fields (output.Or t ∷ os) = let rest = all_fields os in let more = one_more is_output_field (output.Or t) os in omega arith
all_fields (output.Field f ∷ os) = let rest = all_fields os in let more = one_more is_output_field (output.Field f) os in omega arith

-- ---- conditions: the last alternative of the cards up to each one has few

each_few : (so_far : List Condition) (os : List OutputSpec) → ((k : ℕ) → fold conditions_with (length so_far) (take k os) ≤ 60) → Each AreFew (line_alternatives so_far os)
each_few so_far [] h = (h 0, tt)
each_few so_far (output.Record r ∷ os) h = each_few so_far os (λ k. h (suc k))
each_few so_far (output.And t ∷ os) h =
    let both = length-append so_far (standing t) in
    let here = standing_count t in
    let same : length so_far + filled_count t ≡ length (so_far ++ standing t) = omega arith in
    each_few (so_far ++ standing t) os (λ k. subst (λ n. fold conditions_with n (take k os) ≤ 60) same (h (suc k)))
each_few so_far (output.Or t ∷ os) h = (h 0, each_few (standing t) os (λ k. subst (λ n. fold conditions_with n (take k os) ≤ 60) (sym (standing_count t)) (h (suc k))))
each_few so_far (output.Field f ∷ os) h = each_few so_far os (λ k. h (suc k))

abbrev IsFewFrom : ℕ → List OutputSpec → Type 0
IsFewFrom n os = (k : ℕ) → fold conditions_with n (take k os) ≤ 60

few_more : (n : ℕ) (os : List OutputSpec) (o : OutputSpec) → IsFewFrom n os → fold conditions_with n (os ++ o ∷ []) ≤ 60 → IsFewFrom n (os ++ o ∷ [])
few_more n os o h all k = by (nat_le k (length os)) refl
  where
    by : (b : Bool) → nat_le k (length os) ≡ b → fold conditions_with n (take k (os ++ o ∷ [])) ≤ 60
    by true e = subst (λ xs. fold conditions_with n xs ≤ 60) (sym (take-append-le k os (o ∷ []) (leb-true k (length os) e))) (h k)
    by false e =
        let long = length-append os (o ∷ []) in
        let past : length os < k = grind arith in
        subst (λ xs. fold conditions_with n xs ≤ 60) (sym (take_all k (os ++ o ∷ []) (omega arith))) all

abbrev IsFew : Group OutputRecord OutputSpec → Type 0
IsFew g = IsFewFrom (filled_count g.heading.conditions) g.followers

abbrev IsWithin : Group OutputRecord OutputSpec → Type 0
IsWithin g = (alternative_count g ≤ 50) × (output_field_count g ≤ 200) × IsFew g

module _ (cards : List SpecCard) (rules : KeepsCardRules cards) where
  pub few_lines : length (lines_on cards) ≤ 1000
  few_lines =
      let all : group_count output_role cards ≤ 1000 = all_within (group_count output_role) 1000 cards (omega arith) (λ before c after split. (unpassed cards rules before c after split).lines) in
      let same = length-map (groups output_role cards) (card_line cards) in
      omega arith

  -- ---- the open line

  most_conditions : (before after : List SpecCard) → cards ≡ before ++ after → of_line condition_count before ≤ 60
  most_conditions = front_within (of_line condition_count) 60 cards (omega arith) (λ b c a s. (unpassed cards rules b c a s).conditions)

  abbrev IsOpenFew : List SpecCard → Type 0
  IsOpenFew before = (g : Group OutputRecord OutputSpec) → open_group output_role before ≡ Some g → IsFew g

  step : Seen cards (λ before c after. IsOpenFew before → IsOpenFew (before ++ c ∷ []))
  step before c after split h g is =
      by (output_role c.spec) (open_group output_role before) h (sym (open_group-push output_role before c) ∙ is)
      (at_open condition_count 60 (open_group output_role (before ++ c ∷ [])) g (most_conditions (before ++ c ∷ []) after (split ∙ sym (append_assoc before (c ∷ []) after))) is)
    where
      by : (r : Role OutputRecord OutputSpec) (o : Option (Group OutputRecord OutputSpec)) → ((p : Group OutputRecord OutputSpec) → o ≡ Some p → IsFew p) → with_card o r ≡ Some g → condition_count g ≤ 60 → IsFew g
      by (Heading x name) o before e most =
          let none : g.followers ≡ [] = cc in
          subst (λ os. IsFewFrom (filled_count g.heading.conditions) os) (sym none) (first (subst (λ os. fold conditions_with (filled_count g.heading.conditions) os ≤ 60) none most))
        where
          first : filled_count g.heading.conditions ≤ 60 → IsFewFrom (filled_count g.heading.conditions) []
          first h zero = h
          first h (suc k) = h
      by (Follower f) None before e most = absurd cc
      by (Follower f) (Some p) before e most =
          let same : with_followers (f ∷ []) p ≡ g = cc in
          subst IsFew same (few_more (filled_count p.heading.conditions) p.followers f (before p refl) (subst (λ q. condition_count q ≤ 60) (sym same) most))
      by Apart o before e most = before g e

  open_few : (before after : List SpecCard) → cards ≡ before ++ after → IsOpenFew before
  open_few = front_keeps cards IsOpenFew step (λ g is. absurd cc)

  opened : (before after : List SpecCard) → cards ≡ before ++ after → (g : Group OutputRecord OutputSpec) → open_group output_role before ≡ Some g → IsWithin g
  opened before after split g is = (
    at_open alternative_count 50 (open_group output_role before) g (front_within (of_line alternative_count) 50 cards (omega arith) (λ b c a s. (unpassed cards rules b c a s).alternatives) before after split) is,
    at_open output_field_count 200 (open_group output_role before) g (front_within (of_line output_field_count) 200 cards (omega arith) (λ b c a s. (unpassed cards rules b c a s).line_fields) before after split) is,
    open_few before after split g is,
  )

  -- ---- rows

  indices : (os : List OutputSpec) → Each (HasValidIndex cards) os → Each HasIndexRow (map (renamed_field (key_number (table_of cards))) (map line_field_of (output_fields_in os)))
  indices [] h = tt
  indices (output.Record r ∷ os) h = indices os h.1
  indices (output.And t ∷ os) h = indices os h.1
  indices (output.Or t ∷ os) h = indices os h.1
  indices (output.Field f ∷ os) h = (h.0, indices os h.1)

  abbrev IsRowWithin : Line Key → Type 0
  IsRowWithin l = IsLineWithin (row_in_table (table_of cards) l)

  line_within : (g : Group OutputRecord OutputSpec) → IsWithin g → InGroup output_role (HasValidIndex cards) g → IsRowWithin (card_line cards g)
  line_within g h valid =
      let number = key_number (table_of cards) in
      let start = standing g.heading.conditions in
      let count = all_alternatives start g.followers in
      let few = h.0 in
      let first = standing_count g.heading.conditions in
      let fields = all_fields g.followers in
      let made = length-map (output_fields_in g.followers) line_field_of in
      let named = length-map (map line_field_of (output_fields_in g.followers)) (renamed_field number) in
      let few_fields = h.1 in
      record {
        few_alternatives = omega arith;
        alternatives = all_of AreFew (line_alternatives start g.followers) (each_few start g.followers (λ k. subst (λ n. fold conditions_with n (take k g.followers) ≤ 60) (sym first) (h.2 k)));
        few_fields = omega arith;
        indices = all_of HasIndexRow (map (renamed_field number) (map line_field_of (output_fields_in g.followers))) (indices g.followers valid);
      }

  pub lines_within : All IsLineWithin (rows_of (table_of cards) cards)
  lines_within =
      let t = table_of cards in
      let gs = groups output_role cards in
      let each = each_both IsWithin (InGroup output_role (HasValidIndex cards)) (λ g. IsRowWithin (card_line cards g)) gs line_within (each_open output_role cards IsWithin opened) (each_valid output_role (HasValidIndex cards) cards (valid_on_cards cards rules)) in
      all_of IsLineWithin (rows_of t cards) (each_row IsRowWithin IsLineWithin (row_in_table t) (lines_on cards) (λ l h. h) (each_row (λ g. IsRowWithin (card_line cards g)) IsRowWithin (card_line cards) gs (λ g h. h) each))
